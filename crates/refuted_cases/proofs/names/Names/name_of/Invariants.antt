-- The rows so far have another address.
use Rattle.std.proofs.Common.{◌≡◌, drop, map}
use Rattle.refuted_cases.specs.Names.{name_at, row_of, rows_of}
use Rattle.refuted_cases.proofs.names.Names.name_of.Given as goal

abbrev pub invariant-loop-row : goal.invariant-loop-row
invariant-loop-row l = name_at (map row_of (drop l.row-index l.self.rows.items)) l.addr ≡ name_at (rows_of l.self) l.addr
