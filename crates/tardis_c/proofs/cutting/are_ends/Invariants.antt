-- The ends are right where those that are left are.
use Rattle.std.proofs.Common.{◌↔◌, drop}
use Rattle.tardis_c.specs.Parts.{AreEndsFrom}
use Rattle.tardis_c.proofs.cutting.are_ends.Given as goal

abbrev pub invariant-loop-end : goal.invariant-loop-end
invariant-loop-end l = AreEndsFrom 0 l.length l.ends ↔ AreEndsFrom l.from l.length (drop l.end-index l.ends)
