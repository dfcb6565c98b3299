-- The last of the word so far.
use Rattle.std.proofs.Common.{◌≡◌}
use Rattle.explain.specs.Culprits.{same_word}
use Rattle.explain.proofs.culprit.same_word.Given as goal

abbrev pub invariant-loop-entry : goal.invariant-loop-entry
invariant-loop-entry l = l.last ≡ same_word l.group l.entry-index l.load
