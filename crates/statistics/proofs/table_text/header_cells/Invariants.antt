-- The cells so far are those of the columns so far.
use Rattle.std.proofs.Common.{◌≡◌, ◌∷◌, map, take}
use Rattle.std.specs.Prelude.{codes}
use Rattle.csv.specs.Records.{fields_of}
use Rattle.statistics.specs.Columns.{column_name, columns}
use Rattle.statistics.proofs.table_text.header_cells.Given as goal

abbrev pub invariant-loop-column : goal.invariant-loop-column
invariant-loop-column l = fields_of l.cells ≡ codes "part" ∷ map column_name (take l.column-index columns)
