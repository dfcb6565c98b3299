use Rattle.std.proofs.Common.{◌≡◌, ◌∙◌, ap, subst, inl, inr, arith, slice_index_or}
use Rattle.std.proofs.lemmas.Bool.{cases_lt}
use Rattle.std.proofs.lemmas.List.{get_or_default}
use Rattle.core_unit.specs.Kept.{Replays}
use Rattle.machine.proofs.running.each_replays.Goals as goal

pub loop-unit-preserved : goal.loop-unit-preserved
loop-unit-preserved c k d below = elim (cases_lt k c.loop-unit.unit-index) [
  | inl earlier ↦ c.loop-unit.invariant k d earlier
  | inr here ↦ subst Replays
      (c.unit-item.is ∙ get_or_default c.args.units.now c.loop-unit.unit-index c.unit-item.result d c.loop-unit-test.true
      ∙ ap (λ n. slice_index_or c.args.units.now n d) (let same : c.loop-unit.unit-index ≡ k = omega arith in same))
      c.replays.ensures.replays
]

pub returns : goal.returns
returns c k d below = c.loop-unit.invariant k d (omega arith)
