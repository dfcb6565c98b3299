-- None of the outcomes so far is this one.
use Rattle.std.proofs.Common.{◌≡◌, false, take}
use Rattle.std.specs.List.{list_any}
use Rattle.litmus.specs.Outcomes.{is_outcome}
use Rattle.litmus.proofs.test.Litmus.forbids.Given as goal

abbrev pub invariant-loop-values : goal.invariant-loop-values
invariant-loop-values l = list_any (is_outcome l.outcome) (take l.values-index l.self.forbidden) ≡ false
