-- The text of a table: comma-separated values, a line for the registers and then one for each row.
use Rattle.std.specs.Prelude.{ℕ, Bool, if◌then◌else◌, List, [], ◌∷◌, ◌++◌, map, codes}
use Rattle.std.specs.List.{flat_map}
use Rattle.csv_lines.specs.Lines.{cells_line}
use Rattle.decimal_text.specs.Numbers.{numeral}
use Rattle.litmus.specs.TestGrammar.{shown_text}
use Rattle.litmus.specs.Parts.{ShownParts}
use Rattle.litmus.specs.TableParts.{RowParts, TableParts}

abbrev pub header_cells : List ShownParts → List (List ℕ)
header_cells shown = map shown_text shown ++ codes "count" ∷ codes "forbidden" ∷ []

abbrev pub yes_no : Bool → List ℕ
yes_no forbidden = if forbidden then codes "yes" else codes "no"

abbrev pub row_cells : RowParts → List (List ℕ)
row_cells row = map numeral row.values ++ numeral row.count ∷ yes_no row.forbidden ∷ []

abbrev pub row_line : RowParts → List ℕ
row_line row = cells_line (row_cells row)

abbrev pub table_text : TableParts → List ℕ
table_text table = cells_line (header_cells table.shown) ++ flat_map row_line table.rows
