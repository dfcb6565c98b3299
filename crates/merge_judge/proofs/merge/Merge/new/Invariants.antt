-- The first records of the logs so far were read.
use Rattle.std.proofs.Common.{◌≡◌, length}
use Rattle.merge_judge.proofs.Opening.{Opened}
use Rattle.merge_judge.proofs.merge.Merge.new.Given as goal

abbrev pub invariant-loop-core : goal.invariant-loop-core
invariant-loop-core g l = record {
  opened : Opened g.S.RecordSource.remaining g.S.RecordSource.failed l.fn.readers l.readers l.core l.lanes.items l.clean;
  cores : l.cores ≡ length l.fn.readers;
}
