-- The texts so far are those of the cores so far.
use Rattle.litmus.specs.inner.JudgedOutcome.{at_end}
use Rattle.litmus.proofs.JudgedOutcome.{TextsSoFar}
use Rattle.litmus.proofs.judging.log_texts.Given as goal

abbrev pub invariant-loop-number : goal.invariant-loop-number
invariant-loop-number l = TextsSoFar (at_end l.units) l.cores l.texts.items l.number
