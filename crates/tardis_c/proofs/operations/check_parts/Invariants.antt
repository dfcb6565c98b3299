-- The cores so far, and those that are left.
use Rattle.std.proofs.Common.{◌≡◌, drop, length, take}
use Rattle.std.specs.Prelude.{All}
use Rattle.tardis_c.specs.Faults.{AreOperations}
use Rattle.tardis_c.specs.Parts.{AreEndsFrom, parts_from, parts_of}
use Rattle.tardis_c.proofs.operations.check_parts.Given as goal

abbrev pub invariant-loop-core : goal.invariant-loop-core
invariant-loop-core g l = record {
  left : AreEndsFrom l.from (length l.operations) (drop l.core l.ends);
  rest : drop l.core (parts_of l.operations l.ends) ≡ parts_from l.from l.operations (drop l.core l.ends);
  all : All (AreOperations g.T.InNumbers.in_range) (take l.core (parts_of l.operations l.ends));
}
