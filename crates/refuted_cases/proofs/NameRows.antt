-- What is read of a line is just the address and the name whose line it is.
use Rattle.std.proofs.Common.{◌≡◌, ℕ, ◌^◌, true, List, [], ◌∷◌, ◌++◌, Some, None, ap, subst, sym, ◌∙◌}
use Rattle.std.specs.Char.{is_ascii_digit, is_ascii_graphic}
use Rattle.std.specs.List.{list_all}
use Rattle.std.specs.Prelude.{not, nat_le, ◌&&◌, length}
use Rattle.std.proofs.lemmas.Bool.{and_parts, cond-true, ne_eqb}
use Rattle.decimal_text.proofs.Lines.{NoLf}
use Rattle.decimal_text.proofs.Numbers.{guard_some}
use Rattle.decimal_text.proofs.Reading.{bind_some}
use Rattle.text_lines.specs.Fields.{field_below}
use Rattle.text_lines.specs.Lines.{IsOneLine}
use Rattle.text_lines.proofs.Fields.{field_below_again, field_below_takes, number_no_lf}
use Rattle.text_lines.proofs.TextLines.{first_line, no_line}
use Rattle.refuted_cases.specs.Names.{is_name, line_text, Fits, NoRowInFront, RowInFront}
use Rattle.refuted_cases.specs.inner.Rows.{if_named, row_at}

takes : (line : List ℕ) (row : ℕ × List ℕ) → row_at line ≡ Some row → (line ≡ line_text row) × Fits row
takes line row e =
    let a = bind_some (field_below (2 ^ 64) line) if_named row e in
    let g = guard_some (is_name a.0.1) a.0 row a.2 in
    let t = field_below_takes (2 ^ 64) line a.0 a.1 in
    subst (λ (r : ℕ × List ℕ). (line ≡ line_text r) × Fits r) g.1 (t.0, (t.1, g.0))

again : (row : ℕ × List ℕ) → Fits row → row_at (line_text row) ≡ Some row
again row fits = rw (field_below_again (2 ^ 64) row.0 row.1 fits.0) (cond-true (is_name row.1) (Some row) None fits.1)

graphic_no_lf : (bytes : List ℕ) → list_all is_ascii_graphic bytes ≡ true → NoLf bytes
graphic_no_lf [] all = tt
graphic_no_lf (b ∷ bs) all =
    let p = and_parts (is_ascii_graphic b) (list_all is_ascii_graphic bs) all in (
      ne_eqb b 10 (λ e. let wrong : is_ascii_graphic 10 ≡ true = subst (λ (c : ℕ). is_ascii_graphic c ≡ true) e p.0 in cc),
      graphic_no_lf bs p.1,
    )

name_no_lf : (name : List ℕ) → is_name name ≡ true → NoLf name
unfolding is_name
name_no_lf [] is = tt
name_no_lf (b ∷ bs) is =
    let p = and_parts (not (is_ascii_digit b)) (nat_le (length (b ∷ bs)) 64 && list_all is_ascii_graphic (b ∷ bs)) is in
    graphic_no_lf (b ∷ bs) (and_parts (nat_le (length (b ∷ bs)) 64) (list_all is_ascii_graphic (b ∷ bs)) p.1).1

row_no_lf : (row : ℕ × List ℕ) → Fits row → NoLf (line_text row)
row_no_lf row fits = number_no_lf row.0 row.1 (name_no_lf row.1 fits.1)

-- ---- the first line

pub none_without_feed : (bytes : List ℕ) → IsOneLine bytes → NoRowInFront bytes
none_without_feed bytes one = λ row rest there. no_line bytes (line_text row) rest one there.1

pub none_of_other : (bytes line behind : List ℕ) → IsOneLine line → bytes ≡ line ++ 10 ∷ behind → None ≡ row_at line → NoRowInFront bytes
none_of_other bytes line behind one is none = λ row rest there.
    let same = first_line bytes line behind (line_text row) rest one (row_no_lf row there.0) is there.1 in
    let wrong : None ≡ Some row = none ∙ ap row_at same ∙ again row there.0 in
    cc

pub first_of_line : (bytes line behind : List ℕ) (row : ℕ × List ℕ) → bytes ≡ line ++ 10 ∷ behind → Some row ≡ row_at line → RowInFront row bytes behind
first_of_line bytes line behind row is some =
    let t = takes line row (sym some) in
    (t.1, is ∙ ap (λ (l : List ℕ). l ++ 10 ∷ behind) t.0)
