-- The sources so far, and the logs that are left.
use Rattle.std.proofs.Common.{◌≡◌, ◌++◌, drop, length, map}
use Rattle.log_file.specs.InMemory.{rest_of}
use Rattle.tardis_c.specs.Parts.{AreEndsFrom, parts_from, parts_of}
use Rattle.tardis_c.proofs.cutting.sources_of.Given as goal

abbrev pub invariant-loop-end : goal.invariant-loop-end
invariant-loop-end l = record {
  left : AreEndsFrom l.from (length l.bytes) (drop l.end-index l.ends);
  texts : parts_of l.bytes l.ends ≡ map rest_of l.sources.items ++ parts_from l.from l.bytes (drop l.end-index l.ends);
}
