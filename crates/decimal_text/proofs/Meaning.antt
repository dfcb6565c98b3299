-- What the answers of the code mean.
use Rattle.std.proofs.Common.{◌≡◌, ℕ, List, ◌∷◌, ◌++◌, Option, Some, None, option_map, refl, sym, ap, subst, ◌∙◌, arith, inl, inr}
use Rattle.std.specs.Prelude.{IfSome, IsNone, IsTrue}
use Rattle.std.proofs.lemmas.Bool.{cases_lt, false_from_ne_true}
use denote.Ref.{Bor}
use Rattle.decimal_text.specs.Numbers.{numeral, as_u64, StandsInFront}
use Rattle.decimal_text.specs.Reading.{is_digit, onward, number_at, after, field_at, last_number, front_now, front_map}
use Rattle.decimal_text.proofs.Numbers.{numeral_zero, number_zero, number_onward, after_takes, after_again}
use Rattle.decimal_text.proofs.Reading.{stands_in_front, field_takes, field_again, last_takes, last_again}

-- what was read, and the bytes after it
abbrev Front : Type 0
Front = Option (Option ℕ × Bor (List ℕ))

-- a number was found at the front
front_found : (P : ℕ → List ℕ → Type 0) (o : Option (ℕ × List ℕ)) (r : Front) → front_now r ≡ front_map as_u64 o
    → ((x : ℕ × List ℕ) → o ≡ Some x → P x.0 x.1) → IfSome r (λ read. (n : ℕ) × (read.0 ≡ as_u64 n) × P n read.1.now)
front_found P None None e holds = tt
front_found P (Some x) None e holds = tt
front_found P None (Some y) e holds = absurd cc
front_found P (Some x) (Some y) e holds =
    let pair : (y.0, y.1.now) ≡ (as_u64 x.0, x.1) = cc in
    (x.0, ap (λ (p : Option ℕ × List ℕ). p.0) pair, subst (λ (rest : List ℕ). P x.0 rest) (sym (ap (λ (p : Option ℕ × List ℕ). p.1) pair)) (holds x refl))

-- nothing was found there
front_none : (o : Option (ℕ × List ℕ)) (r : Front) → front_now r ≡ front_map as_u64 o → IsNone r → o ≡ None
front_none None r e none = refl
front_none (Some x) None e none = absurd cc
front_none (Some x) (Some y) e none = absurd cc

none_no_some : {A : Type 0} (o : Option A) (x : A) → o ≡ None → o ≡ Some x → ⊥
none_no_some o x p q = let e : None ≡ Some x = sym p ∙ q in cc

-- ---- a number

pub number_found : (bytes : List ℕ) (r : Front) → front_now r ≡ front_map as_u64 (number_at bytes) → IfSome r (λ read. (n : ℕ) × (read.0 ≡ as_u64 n) × StandsInFront n bytes read.1.now)
number_found bytes r e = front_found (λ n rest. StandsInFront n bytes rest) (number_at bytes) r e (λ x is. stands_in_front bytes x is)

number_of_numeral : (n : ℕ) (rest : List ℕ) → (x : ℕ × List ℕ) × (number_at (numeral n ++ rest) ≡ Some x)
number_of_numeral n rest =
    elim (cases_lt 0 n) [
      | inl pos ↦ (onward n rest, number_onward n rest pos)
      | inr le ↦
          let is : 0 ≡ n = omega arith in
          ((0, rest), subst (λ (k : ℕ). number_at (numeral k ++ rest) ≡ Some (0, rest)) is (ap (λ (xs : List ℕ). number_at (xs ++ rest)) numeral_zero ∙ number_zero rest))
    ]

pub number_none : (bytes : List ℕ) (r : Front) → front_now r ≡ front_map as_u64 (number_at bytes) → IsNone r → (n : ℕ) (rest : List ℕ) → bytes ≡ numeral n ++ rest → ⊥
number_none bytes r e none n rest is =
    let found = number_of_numeral n rest in
    none_no_some (number_at bytes) found.0 (front_none (number_at bytes) r e none) (ap number_at is ∙ found.1)

-- ---- a number and a byte

pub field_found : (end : ℕ) (bytes : List ℕ) (r : Front) → front_now r ≡ front_map as_u64 (field_at end bytes) → IfSome r (λ read. (n : ℕ) × (read.0 ≡ as_u64 n) × (bytes ≡ numeral n ++ (end ∷ read.1.now)))
field_found end bytes r e = front_found (λ n rest. bytes ≡ numeral n ++ (end ∷ rest)) (field_at end bytes) r e (λ x is. field_takes end bytes x is)

pub field_none : (end : ℕ) (bytes : List ℕ) (r : Front) → front_now r ≡ front_map as_u64 (field_at end bytes) → (IsTrue (is_digit end) → ⊥) → IsNone r → (n : ℕ) (rest : List ℕ) → bytes ≡ numeral n ++ (end ∷ rest) → ⊥
field_none end bytes r e no-digit none n rest is =
    none_no_some (field_at end bytes) (n, rest) (front_none (field_at end bytes) r e none) (ap (field_at end) is ∙ field_again end n rest (false_from_ne_true (is_digit end) no-digit))

-- ---- a number that is all there is

pub last_found : (bytes : List ℕ) (r : Option (Option ℕ)) → r ≡ option_map as_u64 (last_number bytes) → IfSome r (λ read. (n : ℕ) × (read ≡ as_u64 n) × (bytes ≡ numeral n))
last_found bytes r e = subst (λ (q : Option (Option ℕ)). IfSome q (λ read. (n : ℕ) × (read ≡ as_u64 n) × (bytes ≡ numeral n))) (sym e) (go (last_number bytes) refl)
  where
    go : (o : Option ℕ) → last_number bytes ≡ o → IfSome (option_map as_u64 o) (λ read. (n : ℕ) × (read ≡ as_u64 n) × (bytes ≡ numeral n))
    go None is = tt
    go (Some n) is = (n, refl, last_takes bytes n is)

mapped_none : (o : Option ℕ) (r : Option (Option ℕ)) → r ≡ option_map as_u64 o → IsNone r → o ≡ None
mapped_none None r e none = refl
mapped_none (Some x) None e none = absurd cc
mapped_none (Some x) (Some y) e none = absurd cc

pub last_none : (bytes : List ℕ) (r : Option (Option ℕ)) → r ≡ option_map as_u64 (last_number bytes) → IsNone r → (n : ℕ) → bytes ≡ numeral n → ⊥
last_none bytes r e none n is = none_no_some (last_number bytes) n (mapped_none (last_number bytes) r e none) (ap last_number is ∙ last_again n)

-- ---- a text

pub text_found : (text bytes : List ℕ) (r : Option (Bor (List ℕ))) → option_map (λ x. x.now) r ≡ after text bytes → IfSome r (λ rest. bytes ≡ text ++ rest.now)
text_found text bytes None e = tt
text_found text bytes (Some rest) e = after_takes text bytes rest.now (sym e)

pub text_none : (text bytes : List ℕ) (r : Option (Bor (List ℕ))) → option_map (λ x. x.now) r ≡ after text bytes → IsNone r → (rest : List ℕ) → bytes ≡ text ++ rest → ⊥
text_none text bytes None e none rest is = none_no_some (after text bytes) rest (sym e) (ap (after text) is ∙ after_again text rest)
text_none text bytes (Some y) e none rest is = absurd cc
