-- The sources so far, and the logs that are left.
use Rattle.std.proofs.Common.{◌≡◌, ◌++◌, drop, length}
use Rattle.merge_judge.specs.Records.{logs_from}
use Rattle.tardis_c.specs.Operations.{logs_of}
use Rattle.tardis_c.specs.Parts.{AreEndsFrom, parts_from, parts_of}
use Rattle.tardis_c.proofs.cutting.slices_of.Given as goal

abbrev pub invariant-loop-end : goal.invariant-loop-end
invariant-loop-end l = record {
  left : AreEndsFrom l.from (length l.operations) (drop l.end-index l.ends);
  core : l.core ≡ l.end-index;
  cores : l.cores ≡ length l.ends;
  logs : logs_from 0 (length l.ends) (logs_of (parts_of l.operations l.ends)) ≡ l.sources.items ++ logs_from l.core (length l.ends) (logs_of (parts_from l.from l.operations (drop l.end-index l.ends)));
}
