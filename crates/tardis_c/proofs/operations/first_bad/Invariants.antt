-- The operations so far are some.
use Rattle.std.proofs.Common.{take}
use Rattle.std.specs.Prelude.{All}
use Rattle.tardis_c.proofs.operations.first_bad.Given as goal

abbrev pub invariant-loop-index : goal.invariant-loop-index
invariant-loop-index g l = All g.T.InNumbers.in_range (take l.index l.operations)
