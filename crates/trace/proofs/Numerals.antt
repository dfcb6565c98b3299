-- The digits at the front, and the number that they make.
use Rattle.std.proofs.Common.{◌≡◌, ℕ, ◌+◌, ◌*◌, ◌<◌, ◌≤◌, ◌^◌, List, [], ◌∷◌, length, false, get_or, Some, None, arith, inl, inr, refl, sym}
use Rattle.std.proofs.Math.Nat.{mul-le-mul_left}
use Rattle.std.proofs.lemmas.Bool.{cases_lt, cond_below, cond_above}
use Rattle.std.proofs.lemmas.Bool.Decides.{nat_tests}
use Rattle.trace.specs.Grammar.{digit_value}
use Rattle.trace.specs.inner.Reading.{fitting, goes_on, onward}

pub onward_digit : (base n b : ℕ) (bs : List ℕ) → digit_value b < base → onward base n (b ∷ bs) ≡ onward base (n * base + digit_value b) bs
onward_digit base n b bs lt = sym (cond_below (digit_value b) base (onward base (n * base + digit_value b) bs) (n, b ∷ bs) lt)

pub onward_stop : (base n b : ℕ) (bs : List ℕ) → base ≤ digit_value b → onward base n (b ∷ bs) ≡ (n, b ∷ bs)
onward_stop base n b bs le = sym (cond_above (digit_value b) base (onward base (n * base + digit_value b) bs) (n, b ∷ bs) (n, b ∷ bs) le refl)

-- more digits make no smaller number
pub onward_grows : (base n : ℕ) (bytes : List ℕ) → 1 ≤ base → n ≤ (onward base n bytes).0
onward_grows base n [] low = omega arith
onward_grows base n (b ∷ bs) low = elim (cases_lt (digit_value b) base) [
  | inl lt ↦ (
      let more = onward_grows base (n * base + digit_value b) bs low in
      let product = mul-le-mul_left n low in
      rw (onward_digit base n b bs lt) (omega arith))
  | inr le ↦ rw (onward_stop base n b bs le) (omega arith)
]

-- what has more than 64 bits doesn't fit
pub none_of_large : (x : ℕ × List ℕ) → 2 ^ 64 ≤ x.0 → None ≡ fitting x
none_of_large x large = grind (arith, nat_tests)

-- one digit more makes too large a number
pub overflows : (base value : ℕ) (rest : List ℕ) → 1 ≤ base → 0 < length rest → digit_value (get_or rest 0 0) < base
    → 2 ^ 64 ≤ value * base + digit_value (get_or rest 0 0) → None ≡ fitting (onward base value rest)
overflows base value [] low some digit large = absurd (omega arith)
overflows base value (b ∷ bs) low some digit large =
    let more = onward_grows base (value * base + digit_value b) bs low in
    none_of_large (onward base value (b ∷ bs)) (rw (onward_digit base value b bs digit) (omega arith))

-- no digit goes on
pub stops : (base value : ℕ) (rest : List ℕ) → (0 < length rest → base ≤ digit_value (get_or rest 0 0)) → onward base value rest ≡ (value, rest)
stops base value [] none = refl
stops base value (b ∷ bs) none = onward_stop base value b bs (none (omega arith))

pub fits : (value : ℕ) (rest : List ℕ) → value < 2 ^ 64 → goes_on rest ≡ false → Some (value, rest) ≡ fitting (value, rest)
fits value rest lt end = grind (arith, nat_tests)
