-- What is read is the text that stands there, and that text is read again.
use Rattle.std.proofs.Common.{◌≡◌, ℕ, ◌+◌, ◌*◌, ◌-◌, ◌≤◌, false, eqb, List, [], ◌∷◌, ◌++◌, length, Option, Some, None, refl, sym, ap, subst, ◌∙◌, arith, inl, inr}
use Rattle.std.proofs.lemmas.Bool.{cases_Bool, cases_lt, eqb-true}
use Rattle.std.proofs.lemmas.List.{append-nil, nil_from_length}
use Rattle.decimal_text.specs.Numbers.{numeral, StandsInFront}
use Rattle.decimal_text.specs.Reading.{◌>>=◌, whole, is_digit, onward, number_at, after, field_at, last_number}
use Rattle.decimal_text.proofs.Numbers.{guard_some, onward_digit, onward_end, number_takes, number_again, number_onward, after_takes, after_again}

-- the value of a step that did not fail
pub bind_some : {A B : Type 0} (o : Option A) (f : A → Option B) (y : B) → (o >>= f) ≡ Some y → (x : A) × (o ≡ Some x) × (f x ≡ Some y)
bind_some None f y e = absurd cc
bind_some (Some x) f y e = (x, refl, e)

pub some_is : {A : Type 0} (x y : A) → Some x ≡ Some y → x ≡ y
some_is x y e = cc

pub whole_some : {A : Type 0} (o : Option (A × List ℕ)) (x : A) → whole o ≡ Some x → o ≡ Some (x, [])
whole_some None x e = absurd cc
whole_some {A} (Some y) x e =
    let g = guard_some (eqb (length y.1) 0) y.0 x e in
    let none : y.1 ≡ [] = nil_from_length y.1 (eqb-true (length y.1) 0 g.0) in
    ap (λ (r : List ℕ). Some (y.0, r)) none ∙ ap (λ (v : A). Some (v, [])) g.1

-- ---- a number and a byte

pub field_takes : (c : ℕ) (bytes : List ℕ) (x : ℕ × List ℕ) → field_at c bytes ≡ Some x → bytes ≡ numeral x.0 ++ (c ∷ x.1)
unfolding field_at
field_takes c bytes x e =
    let n = bind_some (number_at bytes) (λ n. after (c ∷ []) n.1 >>= λ rest. Some (n.0, rest)) x e in
    let a = bind_some (after (c ∷ []) n.0.1) (λ rest. Some (n.0.0, rest)) x n.2 in
    let all : bytes ≡ numeral n.0.0 ++ (c ∷ a.0) = number_takes bytes n.0 n.1 ∙ ap (λ (r : List ℕ). numeral n.0.0 ++ r) (after_takes (c ∷ []) n.0.1 a.0 a.1) in
    subst (λ (y : ℕ × List ℕ). bytes ≡ numeral y.0 ++ (c ∷ y.1)) (some_is (n.0.0, a.0) x a.2) all

pub field_again : (c : ℕ) (n : ℕ) (rest : List ℕ) → is_digit c ≡ false → field_at c (numeral n ++ (c ∷ rest)) ≡ Some (n, rest)
unfolding field_at
field_again c n rest none = rw (number_again n (c ∷ rest) none, after_again (c ∷ []) rest) refl

-- ---- a number at the end

pub last_takes : (bytes : List ℕ) (n : ℕ) → last_number bytes ≡ Some n → bytes ≡ numeral n
unfolding last_number
last_takes bytes n e = number_takes bytes (n, []) (whole_some (number_at bytes) n e) ∙ append-nil (numeral n)

pub last_again : (n : ℕ) → last_number (numeral n) ≡ Some n
unfolding last_number
last_again n =
    let e : number_at (numeral n) ≡ Some (n, []) = ap number_at (sym (append-nil (numeral n))) ∙ number_again n [] tt in
    rw e refl

-- ---- the longest number

onward_grows : (n : ℕ) (bytes : List ℕ) → n ≤ (onward n bytes).0
onward_grows n [] = omega arith
onward_grows n (b ∷ bs) =
    elim (cases_Bool (is_digit b)) [
      | inl h ↦ rw (onward_digit n b bs h) (omega (arith, onward_grows (n * 10 + (b - 48)) bs))
      | inr h ↦ rw (onward_end n (b ∷ bs) h) (omega arith)
    ]

number_longest : (n m : ℕ) (bytes rest others : List ℕ) → number_at bytes ≡ Some (n, rest) → bytes ≡ numeral m ++ others → m ≤ n
number_longest n m bytes rest others e is =
    elim (cases_lt 0 m) [
      | inl pos ↦
          let there : Some (onward m others) ≡ Some (n, rest) = sym (ap number_at is ∙ number_onward m others pos) ∙ e in
          let same : (onward m others).0 ≡ n = ap (λ (x : ℕ × List ℕ). x.0) (some_is (onward m others) (n, rest) there) in
          omega (arith, onward_grows m others)
      | inr le ↦ omega arith
    ]

pub stands_in_front : (bytes : List ℕ) (x : ℕ × List ℕ) → number_at bytes ≡ Some x → StandsInFront x.0 bytes x.1
stands_in_front bytes x e = record {
  text = number_takes bytes x e;
  longest = λ m others is. number_longest x.0 m bytes x.1 others e is;
}
