-- The records so far were merged, and the order of those without a fault is written.
use Rattle.std.proofs.Common.{◌-◌, ◌^◌}
use Rattle.merge_judge.proofs.Judged.{MergeSoFar}
use Rattle.merge_judge.proofs.judging.merged.Given as goal

abbrev pub invariant-loop-entry : goal.invariant-loop-entry
invariant-loop-entry g l = MergeSoFar g.S.RecordSource.remaining g.S.RecordSource.failed (g.W.ByteSink.contents l.fn.order_out) (g.W.ByteSink.contents l.order_out) (g.W.ByteSink.failed l.fn.order_out) (g.W.ByteSink.failed l.order_out) l.fn.readers l.readers l.merge l.words.values.items l.words.sources.items (g.O.Order.kept l.order) l.fault l.count

abbrev pub decreases-loop-entry : goal.decreases-loop-entry
decreases-loop-entry g l = 2 ^ 27 - l.count
