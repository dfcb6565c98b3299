-- One log after another.
use Rattle.std.proofs.Common.{◌≡◌, [], Some, length, arith, ap, subst, refl, ◌∙◌}
use Rattle.std.specs.Prelude.{◌&&◌, get_or, slice_get}
use Rattle.std.proofs.lemmas.Option.{slice_get_read}
use Rattle.merge_judge.specs.inner.Lanes.{IsLaneAt}
use Rattle.merge_judge.proofs.Merged.{both_true}
use Rattle.merge_judge.proofs.Opening.{all_opened, opened_more}
use Rattle.merge_judge.proofs.merge.Merge.new.Goals as goal

pub loop-core-preserved : goal.loop-core-preserved
loop-core-preserved g c =
    let loop = c.loop-core in
    let core = loop.core in
    let readers = loop.readers in
    let lane = c.in_ok-lane.lane in
    let source = get_or readers core c.index-readers-core.result in
    let inv = loop.invariant in
    let source_is : slice_get readers core ≡ Some source = slice_get_read readers (length readers) core c.index-readers-core.result refl (omega (arith, loop.auto.readers, c.loop-core-test.true)) c.index-readers-core.is ∙ ap (λ s. Some s) c.index-readers-core.is in
    let at : IsLaneAt g.S.RecordSource.remaining g.S.RecordSource.failed core (length c.args.readers.now) source c.new.new.source lane [] =
    subst (λ n. IsLaneAt g.S.RecordSource.remaining g.S.RecordSource.failed n (length c.args.readers.now) source c.new.new.source lane []) c.at.ensures c.in_ok-lane.ensures in
    let more = opened_more inv.opened source c.new.new.source source_is lane (loop.clean && c.is_clean-clean.result) at
    (both_true loop.clean c.is_clean-clean.result c.is_clean-clean.ensures) in
    record {
      opened = rw c.in_ok-push.ensures.items more;
      cores = refl;
    }

pub returns : goal.returns
returns g c =
    let loop = c.loop-core in
    all_opened loop.invariant.opened (omega (arith, c.loop-core-test.false, loop.auto.core-end))
