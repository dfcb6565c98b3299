-- No cell of a table needs quotes.
use Rattle.std.proofs.Common.{Bool, true, false, List, [], ◌∷◌, ◌++◌, ℕ, map, refl, arith, length-append}
use Rattle.std.specs.Prelude.{codes}
use Rattle.std.specs.List.{AllByRecursion}
use Rattle.csv_lines.specs.Lines.{IsPlain, IsPlainRow}
use Rattle.csv_lines.proofs.Plain.{all_plain, plain_cons, plain_number, plain_number_then}
use Rattle.decimal_text.specs.Numbers.{numeral}
use Rattle.litmus.specs.TestGrammar.{shown_text}
use Rattle.litmus.specs.Parts.{ShownParts}
use Rattle.litmus.specs.TableParts.{RowParts}
use Rattle.litmus.specs.TableText.{header_cells, row_cells, yes_no}

plain_register : (shown : ShownParts) → IsPlain (shown_text shown)
unfolding shown_text
plain_register shown =
    plain_number_then shown.core (codes ".r" ++ numeral shown.register)
    (plain_cons 46 (114 ∷ numeral shown.register) refl (plain_cons 114 (numeral shown.register) refl (plain_number shown.register)))

plain_answer : (b : Bool) → IsPlain (yes_no b)
plain_answer true = refl
plain_answer false = refl

-- cells, and two more
two_more : (cells : List (List ℕ)) (y z : List ℕ) → AllByRecursion IsPlain cells → IsPlain y → IsPlain z → IsPlainRow (cells ++ y ∷ z ∷ [])
two_more cells y z each p q = record { some = omega (arith, length-append cells (y ∷ z ∷ [])); each = go cells each }
  where
    go : (xs : List (List ℕ)) → AllByRecursion IsPlain xs → AllByRecursion IsPlain (xs ++ y ∷ z ∷ [])
    go [] all = (p, (q, tt))
    go (x ∷ xs) all = (all.0, go xs all.1)

pub header_plain : (shown : List ShownParts) → IsPlainRow (header_cells shown)
header_plain shown = two_more (map shown_text shown) (codes "count") (codes "forbidden") (all_plain shown_text plain_register shown) refl refl

pub row_plain : (row : RowParts) → IsPlainRow (row_cells row)
row_plain row =
    two_more (map numeral row.values) (numeral row.count) (yes_no row.forbidden) (all_plain numeral plain_number row.values) (plain_number row.count) (plain_answer row.forbidden)
