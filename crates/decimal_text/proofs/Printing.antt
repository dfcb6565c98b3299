-- What is printed of a number is its numeral.
use Rattle.std.proofs.Common.{◌≡◌, ℕ, ◌<◌, ◌^◌, sym, subst, ◌∙◌, arith, inl, inr}
use Rattle.std.specs.Fmt.{decimal}
use Rattle.std.proofs.lemmas.Bool.{cases_lt}
use Rattle.std.proofs.lemmas.Fmt.{decimal-digits_of, decimal_digit}
use Rattle.decimal_text.specs.Numbers.{numeral}
use Rattle.decimal_text.proofs.Numbers.{numeral_pos, numeral_zero}

pub numeral_decimal : (n : ℕ) → n < 2 ^ 64 → numeral n ≡ decimal n
numeral_decimal n lt =
    elim (cases_lt 0 n) [
      | inl pos ↦ numeral_pos n pos ∙ sym (decimal-digits_of n pos lt)
      | inr le ↦ let e : n ≡ 0 = omega arith in subst (λ (k : ℕ). numeral k ≡ decimal k) (sym e) (numeral_zero ∙ sym (decimal_digit 0 (omega arith)))
    ]
