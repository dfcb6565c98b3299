-- No cell of the table needs quotes.
use Rattle.std.proofs.Common.{◌≡◌, ℕ, Bool, true, false, List, [], ◌∷◌, get_or, refl, arith}
use Rattle.std.specs.Prelude.{if◌then◌else◌}
use Rattle.std.specs.List.{AllByRecursion, list_any, range_with_len}
use Rattle.std.proofs.lemmas.Bool.{or_parts}
use Rattle.csv.specs.Writing.{default_writer, needs_quotes}
use Rattle.csv_lines.proofs.Plain.{all_plain, plain_number}
use Rattle.csv_lines.specs.Lines.{IsPlain, IsPlainRow}
use Rattle.decimal_text.specs.Numbers.{numeral}
use Rattle.statistics.specs.Columns.{column_at, column_count}
use Rattle.statistics.specs.TableText.{cell, has_column, header_cells, row_cells, whose_name}
use Rattle.statistics.specs.declared.numbers.Numbers.{Numbers}
use Rattle.statistics.specs.declared.table_text.Whose.{Whose}
use Rattle.statistics.specs.declared.table_text.Whose.TheVariants as whose

plain_whose : (w : Whose) → IsPlain (whose_name w)
plain_whose (whose.Core n) = plain_number n
plain_whose whose.Cores = refl
plain_whose (whose.Slice n) = plain_number n
plain_whose whose.Runs = refl

-- none of these cells needs quotes
plain_cells : (cells : List (List ℕ)) → list_any (needs_quotes default_writer) cells ≡ false → AllByRecursion IsPlain cells
plain_cells [] none = tt
plain_cells (cell ∷ cells) none =
    let each = or_parts (needs_quotes default_writer cell) (list_any (needs_quotes default_writer) cells) none in
    (each.0, plain_cells cells each.1)

plain_choice : (b : Bool) (n : ℕ) → IsPlain (if b then numeral n else [])
plain_choice true n = plain_number n
plain_choice false n = refl

plain_cell : (w : Whose) (n : Numbers) (place : ℕ) → IsPlain (cell w n place)
unfolding cell
plain_cell w n place = plain_choice (has_column w (column_at place)) (get_or n.values place 0)

pub header_plain : IsPlainRow header_cells
header_plain = record { some = omega arith; each = plain_cells header_cells refl }

pub row_plain : (w : Whose) (n : Numbers) → IsPlainRow (row_cells w n)
unfolding row_cells
row_plain w n = record { some = omega arith; each = (plain_whose w, all_plain (cell w n) (plain_cell w n) (range_with_len 0 column_count)) }
