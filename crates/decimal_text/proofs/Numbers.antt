-- Numerals: what is read as a number is its one numeral, and a numeral is read as its number.
use Rattle.std.proofs.Common.{◌≡◌, ◌≢◌, ℕ, zero, suc, ◌+◌, ◌-◌, ◌*◌, ◌/◌, ◌%◌, ◌^◌, ◌<◌, ◌≤◌, Bool, true, false, cond, eqb, leb, List, [], ◌∷◌, ◌++◌, length, take, drop, map, Some, None, refl, sym, ap, subst, ◌∙◌, arith, inl, inr, append_assoc}
use Rattle.std.proofs.lemmas.Bool.{cases_Bool, cases_lt, leb-true, le-leb, cond_below, cond_above, and_parts, and_from, eqb-true, eqb-false, eq-eqb, ne_eqb}
use Rattle.std.proofs.lemmas.Int.Digits.{digits_of_step}
use Rattle.std.specs.Int.Digits.{digits_of}
use Rattle.std.specs.Str.{bytes_eq}
use Rattle.decimal_text.specs.Numbers.{numeral, as_u64}
use Rattle.decimal_text.specs.Reading.{is_digit, onward, number_at, after}

-- a test that passed
pub guard_some : {A : Type 0} (b : Bool) (x y : A) → cond b (Some x) None ≡ Some y → (b ≡ true) × (x ≡ y)
guard_some true x y e = (refl, cc)
guard_some false x y e = absurd cc

-- ---- digits

abbrev pub AreDigits : List ℕ → Type 0
AreDigits [] = Unit {0}
AreDigits (b ∷ bs) = (is_digit b ≡ true) × AreDigits bs

-- the bytes don't begin with a digit
abbrev pub NoDigit : List ℕ → Type 0
NoDigit [] = Unit {0}
NoDigit (b ∷ bs) = is_digit b ≡ false

pub digit_low : (b : ℕ) → is_digit b ≡ true → 48 ≤ b
digit_low b h = leb-true 48 b (and_parts (leb 48 b) (leb b 57) h).0

pub digit_high : (b : ℕ) → is_digit b ≡ true → b ≤ 57
digit_high b h = leb-true b 57 (and_parts (leb 48 b) (leb b 57) h).1

is_digit_from : (b : ℕ) → 48 ≤ b → b ≤ 57 → is_digit b ≡ true
is_digit_from b low high = and_from (leb 48 b) (leb b 57) (le-leb 48 b low) (le-leb b 57 high)

-- ---- the value that fits

pub as_u64_some : (n : ℕ) → n < 2 ^ 64 → Some n ≡ as_u64 n
as_u64_some n lt = cond_below n (2 ^ 64) (Some n) None lt

pub as_u64_none : (n : ℕ) → 2 ^ 64 ≤ n → None ≡ as_u64 n
as_u64_none n le = cond_above n (2 ^ 64) (Some n) None None le refl

-- ---- the digits at the front

pub onward_digit : (n d : ℕ) (bs : List ℕ) → is_digit d ≡ true → onward n (d ∷ bs) ≡ onward (n * 10 + (d - 48)) bs
onward_digit n d bs h = rw h refl

pub onward_end : (n : ℕ) (rest : List ℕ) → NoDigit rest → onward n rest ≡ (n, rest)
onward_end n [] none = refl
onward_end n (b ∷ bs) none = rw none refl

-- ---- numerals

abbrev glyphs : List ℕ → List ℕ
glyphs ds = map (λ digit. 48 + digit) ds

glyphs-append : (xs ys : List ℕ) → glyphs (xs ++ ys) ≡ glyphs xs ++ glyphs ys
glyphs-append [] ys = refl
glyphs-append (x ∷ xs) ys = ap (λ (zs : List ℕ). (48 + x) ∷ zs) (glyphs-append xs ys)

pub numeral_zero : numeral 0 ≡ 48 ∷ []
unfolding numeral
numeral_zero = refl

pub numeral_pos : (n : ℕ) → 0 < n → numeral n ≡ glyphs (digits_of 10 n)
unfolding numeral
numeral_pos n pos = rw (ne_eqb n 0 (λ e. omega (arith, e))) refl

numeral_digit : (n : ℕ) → 0 < n → n < 10 → numeral n ≡ (48 + n) ∷ []
numeral_digit n pos lt =
    let quotient : n / 10 ≡ 0 = omega arith in
    let remainder : n % 10 ≡ n = omega arith in
    let step : digits_of 10 n ≡ n ∷ [] = digits_of_step 10 n (omega arith) pos ∙ ap (λ (q : ℕ). digits_of 10 q ++ (n % 10 ∷ [])) quotient ∙ ap (λ (r : ℕ). r ∷ []) remainder in
    numeral_pos n pos ∙ ap glyphs step

-- a number with one more digit
numeral_more : (n d : ℕ) → 0 < n → d < 10 → numeral (n * 10 + d) ≡ numeral n ++ ((48 + d) ∷ [])
numeral_more n d pos lt =
    let quotient : (n * 10 + d) / 10 ≡ n = omega arith in
    let remainder : (n * 10 + d) % 10 ≡ d = omega arith in
    let step : digits_of 10 (n * 10 + d) ≡ digits_of 10 n ++ (d ∷ []) = digits_of_step 10 (n * 10 + d) (omega arith) (omega arith) ∙ ap (λ (q : ℕ). digits_of 10 q ++ ((n * 10 + d) % 10 ∷ [])) quotient ∙ ap (λ (r : ℕ). digits_of 10 n ++ (r ∷ [])) remainder in
    numeral_pos (n * 10 + d) (omega arith) ∙ ap glyphs step ∙ glyphs-append (digits_of 10 n) (d ∷ []) ∙ ap (λ (xs : List ℕ). xs ++ ((48 + d) ∷ [])) (sym (numeral_pos n pos))

-- a property of all numerals, by their digits
by_digits : (P : ℕ → Type 0) → P 0 → ((n : ℕ) → 0 < n → n < 10 → P n) → ((n d : ℕ) → 0 < n → d < 10 → P n → P (n * 10 + d)) → (fuel n : ℕ) → n < fuel → P n
by_digits P none one more zero n lt = absurd (omega arith)
by_digits P none one more (suc fuel) n lt =
    elim (cases_lt n 10) [
      | inl small ↦ elim (cases_lt 0 n) [
        | inl pos ↦ one n pos small
        | inr le ↦ let e : 0 ≡ n = omega arith in subst P e none
      ]
      | inr large ↦
          let whole : n / 10 * 10 + n % 10 ≡ n = omega arith in
          subst P whole (more (n / 10) (n % 10) (omega arith) (omega arith) (by_digits P none one more fuel (n / 10) (omega arith)))
    ]

pub AreDigits-append : (xs ys : List ℕ) → AreDigits xs → AreDigits ys → AreDigits (xs ++ ys)
AreDigits-append [] ys p q = q
AreDigits-append (x ∷ xs) ys p q = (p.0, AreDigits-append xs ys p.1 q)

glyph_is_digit : (d : ℕ) → d < 10 → is_digit (48 + d) ≡ true
glyph_is_digit d lt = is_digit_from (48 + d) (omega arith) (omega arith)

pub numeral_digits : (n : ℕ) → AreDigits (numeral n)
numeral_digits n = by_digits (λ k. AreDigits (numeral k)) (subst AreDigits (sym numeral_zero) (refl, tt)) one more (n + 1) n (omega arith)
  where
    one : (k : ℕ) → 0 < k → k < 10 → AreDigits (numeral k)
    one k pos lt = subst AreDigits (sym (numeral_digit k pos lt)) (glyph_is_digit k lt, tt)

    more : (k d : ℕ) → 0 < k → d < 10 → AreDigits (numeral k) → AreDigits (numeral (k * 10 + d))
    more k d pos lt h = subst AreDigits (sym (numeral_more k d pos lt)) (AreDigits-append (numeral k) ((48 + d) ∷ []) h (glyph_is_digit d lt, tt))

-- ---- a number at the front

-- a number's digits and those after them are the digits of the number that they go on to
onward_takes : (n : ℕ) (bytes : List ℕ) → 0 < n → numeral n ++ bytes ≡ numeral (onward n bytes).0 ++ (onward n bytes).1
onward_takes n [] pos = refl
onward_takes n (b ∷ bs) pos =
    elim (cases_Bool (is_digit b)) [
      | inl h ↦
          let low = digit_low b h in
          let high = digit_high b h in
          let same : 48 + (b - 48) ≡ b = omega arith in
          let step : numeral n ++ (b ∷ bs) ≡ numeral (n * 10 + (b - 48)) ++ bs =
          sym (ap (λ (xs : List ℕ). xs ++ bs) (numeral_more n (b - 48) pos (omega arith)) ∙ append_assoc (numeral n) ((48 + (b - 48)) ∷ []) bs ∙ ap (λ (x : ℕ). numeral n ++ (x ∷ bs)) same) in
          rw (onward_digit n b bs h) (step ∙ onward_takes (n * 10 + (b - 48)) bs (omega arith))
      | inr h ↦ rw (onward_end n (b ∷ bs) h) refl
    ]

pub number_zero : (bs : List ℕ) → number_at (48 ∷ bs) ≡ Some (0, bs)
unfolding number_at
number_zero bs = refl

number_first : (b : ℕ) (bs : List ℕ) → is_digit b ≡ true → b ≢ 48 → number_at (b ∷ bs) ≡ Some (onward (b - 48) bs)
unfolding number_at
number_first b bs h other = rw (ne_eqb b 48 other, h) refl

pub number_takes : (bytes : List ℕ) (x : ℕ × List ℕ) → number_at bytes ≡ Some x → bytes ≡ numeral x.0 ++ x.1
unfolding number_at
number_takes [] x e = absurd cc
number_takes (b ∷ bs) x e = go (eqb b 48) (is_digit b) refl refl e
  where
    go : (c d : Bool) → eqb b 48 ≡ c → is_digit b ≡ d → cond c (Some (0, bs)) (cond d (Some (onward (b - 48) bs)) None) ≡ Some x → b ∷ bs ≡ numeral x.0 ++ x.1
    go true d same h e =
        let zero-first : b ≡ 48 = eqb-true b 48 same in
        let all : b ∷ bs ≡ numeral 0 ++ bs = ap (λ (y : ℕ). y ∷ bs) zero-first ∙ ap (λ (xs : List ℕ). xs ++ bs) (sym numeral_zero) in
        let found : (0, bs) ≡ x = cc in
        subst (λ (y : ℕ × List ℕ). b ∷ bs ≡ numeral y.0 ++ y.1) found all
    go false false other h e = absurd cc
    go false true other h e =
        let low = digit_low b h in
        let high = digit_high b h in
        let differ : b ≢ 48 = eqb-false b 48 other in
        let glyph : 48 + (b - 48) ≡ b = omega arith in
        let first : b ∷ bs ≡ numeral (b - 48) ++ bs = sym (ap (λ (xs : List ℕ). xs ++ bs) (numeral_digit (b - 48) (omega (arith, differ)) (omega arith)) ∙ ap (λ (y : ℕ). y ∷ bs) glyph) in
        let found : onward (b - 48) bs ≡ x = cc in
        subst (λ (y : ℕ × List ℕ). b ∷ bs ≡ numeral y.0 ++ y.1) found (first ∙ onward_takes (b - 48) bs (omega (arith, differ)))

-- a numeral at the front is read as its number, and then as what further digits go on to
pub number_onward : (n : ℕ) (rest : List ℕ) → 0 < n → number_at (numeral n ++ rest) ≡ Some (onward n rest)
number_onward n rest pos = by_digits (λ k. 0 < k → (rest : List ℕ) → number_at (numeral k ++ rest) ≡ Some (onward k rest)) (λ wrong. absurd (omega (arith, wrong))) one more (n + 1) n (omega arith) pos rest
  where
    one : (k : ℕ) → 0 < k → k < 10 → 0 < k → (rest : List ℕ) → number_at (numeral k ++ rest) ≡ Some (onward k rest)
    one k pos lt q rest =
        let back : (48 + k) - 48 ≡ k = omega arith in
        ap (λ (xs : List ℕ). number_at (xs ++ rest)) (numeral_digit k pos lt) ∙ number_first (48 + k) rest (glyph_is_digit k lt) (λ e. omega (arith, e, pos)) ∙ ap (λ (m : ℕ). Some (onward m rest)) back

    more : (k d : ℕ) → 0 < k → d < 10 → (0 < k → (rest : List ℕ) → number_at (numeral k ++ rest) ≡ Some (onward k rest)) → 0 < k * 10 + d → (rest : List ℕ) → number_at (numeral (k * 10 + d) ++ rest) ≡ Some (onward (k * 10 + d) rest)
    more k d pos lt h q rest =
        let back : (48 + d) - 48 ≡ d = omega arith in
        ap (λ (xs : List ℕ). number_at (xs ++ rest)) (numeral_more k d pos lt) ∙ ap number_at (append_assoc (numeral k) ((48 + d) ∷ []) rest) ∙ h pos ((48 + d) ∷ rest) ∙ ap (λ (p : ℕ × List ℕ). Some p) (onward_digit k (48 + d) rest (glyph_is_digit d lt)) ∙ ap (λ (e : ℕ). Some (onward (k * 10 + e) rest)) back

pub number_again : (n : ℕ) (rest : List ℕ) → NoDigit rest → number_at (numeral n ++ rest) ≡ Some (n, rest)
number_again n rest none =
    elim (cases_lt 0 n) [
      | inl pos ↦ number_onward n rest pos ∙ ap (λ (p : ℕ × List ℕ). Some p) (onward_end n rest none)
      | inr le ↦
          let e : 0 ≡ n = omega arith in
          subst (λ (k : ℕ). number_at (numeral k ++ rest) ≡ Some (k, rest)) e (ap (λ (xs : List ℕ). number_at (xs ++ rest)) numeral_zero ∙ number_zero rest)
    ]

pub numeral_some : (n : ℕ) → numeral n ≡ [] → ⊥
unfolding number_at
numeral_some n e =
    let none : number_at (numeral n ++ []) ≡ None = rw e refl in
    let some = number_again n [] tt in
    cc

-- ---- a text at the front

pub after_is : (text bytes : List ℕ) → after text bytes ≡ cond (bytes_eq (take (length text) bytes) text) (Some (drop (length text) bytes)) None
unfolding after
after_is [] bytes = refl
after_is (t ∷ ts) [] = refl
after_is (t ∷ ts) (b ∷ bs) =
    elim (cases_Bool (eqb b t)) [
      | inl same ↦ rw same (after_is ts bs)
      | inr other ↦ rw other refl
    ]

pub after_takes : (text bytes rest : List ℕ) → after text bytes ≡ Some rest → bytes ≡ text ++ rest
unfolding after
after_takes [] bytes rest e = cc
after_takes (t ∷ ts) [] rest e = absurd cc
after_takes (t ∷ ts) (b ∷ bs) rest e =
    elim (cases_Bool (eqb b t)) [
      | inl h ↦ let same : b ≡ t = eqb-true b t h in let more : bs ≡ ts ++ rest = after_takes ts bs rest (sym (rw h refl) ∙ e) in cc
      | inr h ↦ let none : after (t ∷ ts) (b ∷ bs) ≡ None = rw h refl in absurd cc
    ]

pub after_again : (text rest : List ℕ) → after text (text ++ rest) ≡ Some rest
unfolding after
after_again [] rest = refl
after_again (t ∷ ts) rest = rw (eq-eqb t t refl) (after_again ts rest)
