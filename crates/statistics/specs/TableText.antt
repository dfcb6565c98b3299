-- The text of the table: comma-separated values, a line for the columns, one for each core, one for all cores, and one for each slice. For
-- runs: a line for the columns and one for all runs.
use Rattle.std.specs.Prelude.{ℕ, Bool, true, not, if◌then◌else◌, List, [], ◌∷◌, ◌++◌, get_or, map, codes}
use Rattle.std.specs.List.{enumerate_from, flat_map, range_with_len}
use Rattle.csv_lines.specs.Lines.{cells_line}
use Rattle.decimal_text.specs.Numbers.{numeral}
use Rattle.statistics.specs.Columns.{column_at, column_count, column_name, columns, is_of_slices}
use Rattle.statistics.specs.Numbers.{totals_of}
use Rattle.statistics.specs.declared.column.Column.{Column}
use Rattle.statistics.specs.declared.numbers.Numbers.{Numbers}
use Rattle.statistics.specs.declared.table_text.Whose.{Whose}
use Rattle.statistics.specs.declared.table_text.Whose.TheVariants as whose

abbrev pub header_cells : List (List ℕ)
header_cells = codes "part" ∷ map column_name columns

abbrev pub whose_name : Whose → List ℕ
whose_name (whose.Core number) = codes "core " ++ numeral number
whose_name whose.Cores = codes "total"
whose_name (whose.Slice number) = codes "slice " ++ numeral number
whose_name whose.Runs = codes "total"

-- a line for cores has nothing in the columns for slices, and a line for a slice has nothing in those for cores
abbrev pub has_column : Whose → Column → Bool
has_column (whose.Core number) column = not (is_of_slices column)
has_column whose.Cores column = not (is_of_slices column)
has_column (whose.Slice number) column = is_of_slices column
has_column whose.Runs column = true

-- the cell of the column at a place
unfoldable pub cell : Whose → Numbers → ℕ → List ℕ
cell whose n place = if has_column whose (column_at place) then numeral (get_or n.values place 0) else []

-- the cells of a line
unfoldable pub row_cells : Whose → Numbers → List (List ℕ)
row_cells whose n = whose_name whose ∷ map (cell whose n) (range_with_len 0 column_count)

-- the lines of all these, numbered from 0 on
abbrev pub lines_of : (ℕ → Whose) → List Numbers → List ℕ
lines_of whose all = flat_map (λ line. cells_line (row_cells (whose line.0) line.1)) (enumerate_from 0 all)

abbrev pub statistics_text : List Numbers → List Numbers → List ℕ
statistics_text cores slices =
    cells_line header_cells ++ lines_of whose.Core cores ++ cells_line (row_cells whose.Cores (totals_of cores)) ++ lines_of whose.Slice slices

abbrev pub totals_text : Numbers → List ℕ
totals_text totals = cells_line header_cells ++ cells_line (row_cells whose.Runs totals)
