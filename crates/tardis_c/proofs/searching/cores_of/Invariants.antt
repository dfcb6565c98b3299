-- The cores so far, and the parts that are left.
use Rattle.std.proofs.Common.{◌≡◌, ◌++◌, drop, length}
use Rattle.flat_replay.specs.Accesses.{operation_lists}
use Rattle.tardis_c.specs.Accesses.{trace_of}
use Rattle.tardis_c.specs.Parts.{AreEndsFrom, parts_from, parts_of}
use Rattle.tardis_c.proofs.searching.cores_of.Given as goal

abbrev pub invariant-loop-end : goal.invariant-loop-end
invariant-loop-end l = record {
  left : AreEndsFrom l.from (length l.operations) (drop l.end-index l.ends);
  cores : trace_of (parts_of l.operations l.ends) ≡ operation_lists l.cores.items ++ trace_of (parts_from l.from l.operations (drop l.end-index l.ends));
}
