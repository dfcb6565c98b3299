-- Cells that need no quotes stand in a line as they are.
use Rattle.std.proofs.Common.{◌≡◌, ℕ, ◌≤◌, leb, true, false, List, [], ◌∷◌, ◌++◌, map, refl, sym, ap, subst, append-nil, arith}
use Rattle.std.specs.List.{AllByRecursion, join_with_byte}
use Rattle.std.proofs.lemmas.Bool.Decides.{nat_tests}
use Rattle.csv.specs.Quoting.{needs_byte}
use Rattle.csv.specs.Writing.{default_writer, fields_text, row_text, is_blank}
use Rattle.decimal_text.specs.Numbers.{numeral}
use Rattle.decimal_text.proofs.Numbers.{AreDigits, digit_high, digit_low, numeral_digits}
use Rattle.decimal_text.specs.Reading.{is_digit}
use Rattle.std.proofs.lemmas.Bool.{and_parts, leb-true}
use Rattle.csv_lines.specs.Lines.{IsPlain, IsPlainRow, cells_line}

plain_byte : (c : ℕ) → 48 ≤ c → c ≤ 57 → needs_byte default_writer c ≡ false
plain_byte c h k = grind (arith, nat_tests)

pub plain_cons : (c : ℕ) (cs : List ℕ) → needs_byte default_writer c ≡ false → IsPlain cs → IsPlain (c ∷ cs)
plain_cons c cs h k = rw h k

plain_digits : (ds rest : List ℕ) → AreDigits ds → IsPlain rest → IsPlain (ds ++ rest)
plain_digits [] rest all h = h
plain_digits (d ∷ ds) rest all h = plain_cons d (ds ++ rest) (plain_byte d (digit_low d all.0) (digit_high d all.0)) (plain_digits ds rest all.1 h)

-- a number, and what stands behind it
pub plain_number_then : (n : ℕ) (rest : List ℕ) → IsPlain rest → IsPlain (numeral n ++ rest)
plain_number_then n rest h = plain_digits (numeral n) rest (numeral_digits n) h

pub plain_number : (n : ℕ) → IsPlain (numeral n)
plain_number n = subst IsPlain (append-nil (numeral n)) (plain_number_then n [] refl)

pub all_plain : {A : Type 0} (cell : A → List ℕ) → ((x : A) → IsPlain (cell x)) → (xs : List A) → AllByRecursion IsPlain (map cell xs)
all_plain cell plain [] = tt
all_plain cell plain (x ∷ xs) = (plain x, all_plain cell plain xs)

commas : List (List ℕ) → List ℕ
commas [] = []
commas (x ∷ rest) = 44 ∷ (x ++ commas rest)

joined-commas : (x : List ℕ) (rest : List (List ℕ)) → join_with_byte 44 (x ∷ rest) ≡ x ++ commas rest
unfolding commas
joined-commas x [] = sym (append-nil x)
joined-commas x (y ∷ rest) = ap (λ t. x ++ 44 ∷ t) (joined-commas y rest)

plain-fields : (rest : List (List ℕ)) → AllByRecursion IsPlain rest → fields_text default_writer rest ≡ commas rest
unfolding commas fields_text
plain-fields [] h = refl
plain-fields (x ∷ rest) h = rw h.0 (ap (λ t. 44 ∷ (x ++ t)) (plain-fields rest h.1))

pub plain_line : (cells : List (List ℕ)) → IsPlainRow cells → row_text default_writer cells ≡ cells_line cells
unfolding is_blank
plain_line [] is = absurd (omega (arith, is.some))
plain_line (x ∷ []) is = absurd (omega (arith, is.some))
plain_line (x ∷ y ∷ rest) is = rw (is.each.0, plain-fields (y ∷ rest) is.each.1) (ap (λ t. t ++ 10 ∷ []) (sym (joined-commas x (y ∷ rest))))
