-- The outcomes so far are those of the lines before the rest.
use Rattle.litmus.specs.inner.Ending.{word_lists}
use Rattle.litmus.proofs.ForbidsRead.{ForbidsSoFar}
use Rattle.litmus.proofs.ending.read_forbids.Given as goal

abbrev pub invariant-loop : goal.invariant-loop
invariant-loop l = ForbidsSoFar l.count l.text (word_lists l.outcomes.items) l.rest l.counter
