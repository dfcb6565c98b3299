-- The fields of a line: what is read is the text that stands there, and that text is read again.
use Rattle.std.proofs.Common.{◌≡◌, ℕ, ◌<◌, ◌≤◌, true, false, cond, eqb, List, ◌∷◌, ◌++◌, Option, Some, None, is_some, refl, sym, ap, subst, ◌∙◌, arith, inl, inr}
use Rattle.std.proofs.lemmas.Bool.{cases_Bool, cond_below, cond-true, cond-false, eqb-false, ne_eqb, ltb-true}
use Rattle.std.proofs.Math.Dec.{ltb}
use Rattle.decimal_text.specs.Numbers.{numeral}
use Rattle.decimal_text.specs.Reading.{◌>>=◌, after, field_at, last_number}
use Rattle.decimal_text.proofs.Lines.{NoLf, NoLf-append, numeral_no_lf}
use Rattle.decimal_text.proofs.Numbers.{guard_some, after_takes}
use Rattle.decimal_text.proofs.Reading.{bind_some, some_is, field_takes, field_again, last_takes, last_again}
use Rattle.text_lines.specs.Fields.{below, front_below, field_below, last_below, named}

-- ---- numbers in range

pub below_is : (limit n m : ℕ) → below limit n ≡ Some m → (n ≡ m) × (m < limit)
below_is limit n m e =
    let g = guard_some (ltb n limit) n m e in
    (g.1, subst (λ (k : ℕ). k < limit) g.1 (ltb-true n limit g.0))

pub below_again : (limit n : ℕ) → n < limit → below limit n ≡ Some n
below_again limit n lt = sym (cond_below n limit (Some n) None lt)

pub field_below_takes : (limit : ℕ) (bytes : List ℕ) (x : ℕ × List ℕ) → field_below limit bytes ≡ Some x → (bytes ≡ numeral x.0 ++ 32 ∷ x.1) × (x.0 < limit)
unfolding field_below
field_below_takes limit bytes x e =
    let a = bind_some (field_at 32 bytes) (front_below limit) x e in
    let g = guard_some (ltb a.0.0 limit) a.0 x a.2 in (
      subst (λ (y : ℕ × List ℕ). bytes ≡ numeral y.0 ++ 32 ∷ y.1) g.1 (field_takes 32 bytes a.0 a.1),
      subst (λ (y : ℕ × List ℕ). y.0 < limit) g.1 (ltb-true a.0.0 limit g.0),
    )

pub field_below_again : (limit n : ℕ) (rest : List ℕ) → n < limit → field_below limit (numeral n ++ 32 ∷ rest) ≡ Some (n, rest)
unfolding field_below
field_below_again limit n rest lt = rw (field_again 32 n rest refl) (sym (cond_below n limit (Some (n, rest)) None lt))

pub last_below_takes : (limit : ℕ) (bytes : List ℕ) (n : ℕ) → last_below limit bytes ≡ Some n → (bytes ≡ numeral n) × (n < limit)
unfolding last_below
last_below_takes limit bytes n e =
    let a = bind_some (last_number bytes) (below limit) n e in
    let g = below_is limit a.0 n a.2 in
    (subst (λ (k : ℕ). bytes ≡ numeral k) g.0 (last_takes bytes a.0 a.1), g.1)

pub last_below_again : (limit n : ℕ) → n < limit → last_below limit (numeral n) ≡ Some n
unfolding last_below
last_below_again limit n lt = rw (last_again n) (below_again limit n lt)

-- ---- names

-- a name and these fields are the text of something that fits
abbrev pub IsNamed : {A : Type 0} → (A → List ℕ) → (A → Type 0) → List ℕ → List ℕ → A → Type 0
IsNamed text Fits name fields x = (name ++ fields ≡ text x) × Fits x

-- a line that begins with a name, or what is made of it else
pub named_or : {A : Type 0} (text : A → List ℕ) (Fits : A → Type 0) (name : List ℕ) (fields : List ℕ → Option A) (line : List ℕ) (other : Option A) (x : A)
    → ((rest : List ℕ) → fields rest ≡ Some x → IsNamed text Fits name rest x) → (other ≡ Some x → (line ≡ text x) × Fits x)
    → named name fields line other ≡ Some x → (line ≡ text x) × Fits x
named_or text Fits name fields line other x takes else-takes e =
    elim (cases_Bool (is_some (after name line))) [
      | inl there ↦
          let b = bind_some (after name line) fields x (sym (cond-true (is_some (after name line)) (after name line >>= fields) other there) ∙ e) in
          let is = takes b.0 b.2 in
          (after_takes name line b.0 b.1 ∙ is.0, is.1)
      | inr not-there ↦ else-takes (sym (cond-false (is_some (after name line)) (after name line >>= fields) other not-there) ∙ e)
    ]

-- ---- no line feed

-- a space and more come after a number
pub number_no_lf : (n : ℕ) (rest : List ℕ) → NoLf rest → NoLf (numeral n ++ 32 ∷ rest)
number_no_lf n rest p = NoLf-append (numeral n) (32 ∷ rest) (numeral_no_lf n) (refl, p)
