-- The next front moves ahead, or it doesn't.
use Rattle.std.proofs.Common.{◌≡◌, ◌<◌, Some, None, length, true, false, arith, refl, inl, inr, rules}
use Rattle.std.specs.Prelude.{slice_get}
use Rattle.std.proofs.lemmas.Option.{slice_get_read}
use Rattle.core_check.specs.CoreOrder.{falls}
use Rattle.merge_judge.proofs.Firsts.{first_moves, first_stays}
use Rattle.merge_judge.proofs.Places.{there}
use Rattle.merge_judge.proofs.merge.first.Goals as goal
use Rattle.merge_judge.proofs.merge.first.Goals.{then-is_none, then-is_none-via-then-is_none, then-is_none-via-else-is_none+then-falls, else-is_none+else-falls}

pub loop-core-preserved : goal.loop-core-preserved
loop-core-preserved g c =
    let lanes = c.args.lanes.now in
    let core = c.loop-core.core in
    let so_far = c.loop-core.invariant in
    let lane = c.index-lanes-first.result in
    let lane_is : slice_get lanes c.loop-core.first ≡ Some lane = slice_get_read lanes (length lanes) c.loop-core.first lane refl so_far.within c.index-lanes-first.is in
    let within : core < length lanes = search rules in
    elim c.if-is_none.branch [
      | then-is_none w ↦ rw w.first-is (record {
        within = within;
        before = omega arith;
        first = elim w.then-is_none.branch [
          | then-is_none-via-then-is_none v ↦ (let next = there lanes core within in
              let none : lane.front ≡ None = search rules in
              first_moves lanes c.loop-core.first core so_far.first lane next.0 lane_is next.1 (inl none))
          | then-is_none-via-else-is_none+then-falls v ↦ (let next = v.index-lanes-core.result in
              let falling : falls lane.front next.front ≡ true = search rules in
              first_moves lanes c.loop-core.first core so_far.first lane next lane_is (slice_get_read lanes (length lanes) core next refl within v.index-lanes-core.is) (inr falling))
        ];
      })
      | else-is_none+else-falls w ↦ (let next = w.index-lanes-core.result in
          let some : lane.front ≡ None → ⊥ = search rules in
          let steady : falls lane.front next.front ≡ false = search rules in
          rw w.first-is (record {
            within = so_far.within;
            before = omega (arith, so_far.before);
            first = first_stays lanes c.loop-core.first core so_far.first lane next lane_is (slice_get_read lanes (length lanes) core next refl within w.index-lanes-core.is) so_far.before some steady;
          }))
    ]
