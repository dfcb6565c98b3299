use Rattle.std.proofs.Common.{◌≡◌, ◌∙◌, ap, subst, inl, inr, arith, slice_index_or}
use Rattle.std.proofs.lemmas.Bool.{cases_lt}
use Rattle.std.proofs.lemmas.List.{get_or_default}
use Rattle.manager_slice.specs.Replay.{Replays}
use Rattle.machine.proofs.running.each_slice_replays.Goals as goal

pub loop-slice-preserved : goal.loop-slice-preserved
loop-slice-preserved c k d below = elim (cases_lt k c.loop-slice.slice-index) [
  | inl earlier ↦ c.loop-slice.invariant k d earlier
  | inr here ↦ subst Replays
      (c.slice-item.is ∙ get_or_default c.args.slices.now c.loop-slice.slice-index c.slice-item.result d c.loop-slice-test.true
      ∙ ap (λ n. slice_index_or c.args.slices.now n d) (let same : c.loop-slice.slice-index ≡ k = omega arith in same))
      c.replays.ensures
]

pub returns : goal.returns
returns c k d below = c.loop-slice.invariant k d (omega arith)
