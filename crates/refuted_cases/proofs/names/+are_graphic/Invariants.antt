-- The bytes that are left become fewer.
use Rattle.std.proofs.Common.{length}
use Rattle.refuted_cases.proofs.names.+are_graphic.Given as goal

abbrev pub decreases-are_graphic : goal.decreases-are_graphic
decreases-are_graphic l = length l.bytes.now
