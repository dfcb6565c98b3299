use Rattle.std.proofs.Common.{[], ◌∷◌, take}
use Rattle.refutation.specs.Refuting.{Leave}
use Rattle.refutation.proofs.refuting.first_wrong_step.Given as goal

abbrev pub invariant-loop-place : goal.invariant-loop-place
invariant-loop-place l = Leave l.trace ([] ∷ []) (take l.place l.refutation) (l.cases.facts ∷ l.cases.others)
