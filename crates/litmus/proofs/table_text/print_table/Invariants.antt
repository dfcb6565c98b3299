-- The lines so far are those of the rows so far.
use Rattle.std.proofs.Common.{◌≡◌, ◌++◌, take, Some}
use Rattle.std.specs.List.{flat_map}
use Rattle.litmus.specs.TableText.{header_cells, row_line}
use Rattle.csv_lines.specs.Lines.{cells_line, IsFresh, written}
use Rattle.litmus.proofs.table_text.print_table.Given as goal

abbrev pub invariant-loop-row : goal.invariant-loop-row
invariant-loop-row l = record {
  fresh : IsFresh l.writer;
  text : written l.writer ≡ Some (cells_line (header_cells l.table.shown) ++ flat_map row_line (take l.row-index l.table.rows));
}
