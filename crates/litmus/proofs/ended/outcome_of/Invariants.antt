-- The words so far are those of the registers so far.
use Rattle.std.proofs.Common.{◌≡◌, map, take}
use Rattle.litmus.specs.Ends.{word_in}
use Rattle.litmus.specs.inner.JudgedOutcome.{at_end}
use Rattle.litmus.proofs.ended.outcome_of.Given as goal

abbrev pub invariant-loop-shown : goal.invariant-loop-shown
invariant-loop-shown l = l.outcome.items ≡ map (word_in (at_end l.units)) (take l.shown-index l.test.shown)
