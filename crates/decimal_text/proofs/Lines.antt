-- Texts without a line feed.
use Rattle.std.proofs.Common.{◌≡◌, ℕ, zero, suc, Bool, true, false, eqb, List, [], ◌∷◌, ◌++◌, ◌&&◌, not, arith}
use Rattle.std.specs.List.{All}
use Rattle.std.proofs.lemmas.Bool.{ne_eqb, and_parts, not-true}
use Rattle.decimal_text.specs.Numbers.{numeral}
use Rattle.decimal_text.proofs.Numbers.{AreDigits, numeral_digits, digit_low}

abbrev pub NoLf : List ℕ → Type 0
NoLf [] = Unit {0}
NoLf (b ∷ bs) = (eqb b 10 ≡ false) × NoLf bs

pub NoLf-append : (xs ys : List ℕ) → NoLf xs → NoLf ys → NoLf (xs ++ ys)
NoLf-append [] ys p q = q
NoLf-append (x ∷ xs) ys p q = (p.0, NoLf-append xs ys p.1 q)

pub NoLf-all : (xs : List ℕ) → NoLf xs → All (λ b. eqb b 10 ≡ false) xs
NoLf-all [] p k d lt = absurd (omega arith)
NoLf-all (x ∷ xs) p zero d lt = p.0
NoLf-all (x ∷ xs) p (suc k) d lt = NoLf-all xs p.1 k d (omega arith)

digits_no_lf : (ds : List ℕ) → AreDigits ds → NoLf ds
digits_no_lf [] all = tt
digits_no_lf (d ∷ ds) all = (ne_eqb d 10 (λ e. omega (arith, e, digit_low d all.0)), digits_no_lf ds all.1)

pub numeral_no_lf : (n : ℕ) → NoLf (numeral n)
numeral_no_lf n = digits_no_lf (numeral n) (numeral_digits n)

-- the text of a constant, by a test that computes
abbrev pub no_lf_test : List ℕ → Bool
no_lf_test [] = true
no_lf_test (b ∷ bs) = not (eqb b 10) && no_lf_test bs

pub const_no_lf : (xs : List ℕ) → no_lf_test xs ≡ true → NoLf xs
const_no_lf [] e = tt
const_no_lf (b ∷ bs) e = let p = and_parts (not (eqb b 10)) (no_lf_test bs) e in (not-true (eqb b 10) p.0, const_no_lf bs p.1)
