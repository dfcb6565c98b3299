-- The parts of a line, one by one: what is read is the part that stands there, and such a part is read.
use Rattle.std.proofs.Common.{◌≡◌, ℕ, ◌+◌, ◌*◌, ◌<◌, ◌≤◌, ◌^◌, Bool, true, false, cond, List, [], ◌∷◌, ◌++◌, Option, Some, None, is_some, refl, sym, ap, subst, ◌∙◌, arith, inl, inr, not, nat_lt, ◌&&◌, ◌||◌, ◌==◌, ◌⊎◌, if◌then◌else◌}
use Rattle.std.specs.Prelude.{codes}
use Rattle.std.specs.List.{AllByRecursion}
use Rattle.std.proofs.lemmas.Bool.{cases_Bool, cases_lt, cond_below, and_parts, not-true, ltb-true, eqb-true}
use Rattle.std.proofs.lemmas.Bool.Decides.{nat_tests}
use Rattle.decimal_text.specs.Reading.{◌>>=◌, after}
use Rattle.decimal_text.proofs.Numbers.{guard_some, after_takes, after_again}
use Rattle.trace.specs.Grammar.{is_blank, AreBlanks, digit_value, value_on, AreDigits, IsNumeral, is_alphanumeric, NoneGoesOn, Mark, Number, IsAhead, IsOver}
use Rattle.trace.specs.inner.Reading.{skip, mark_at, onward, goes_on, fitting, digits_at, number_at, is_nothing, is_over}
use Rattle.trace.proofs.Numerals.{onward_digit, onward_stop, fits}

-- ---- blanks

-- the bytes don't begin with a blank
abbrev pub StartsPlain : List ℕ → Type 0
StartsPlain [] = Unit {0}
StartsPlain (b ∷ bs) = is_blank b ≡ false

pub record Skipped (bytes : List ℕ) : Type 0 where
  pub blanks : List ℕ
  pub blank : AreBlanks blanks
  pub are : bytes ≡ blanks ++ skip bytes

pub skipped : (bytes : List ℕ) → Skipped bytes
skipped [] = record { blanks = []; blank = tt; are = refl }
skipped (b ∷ bs) = elim (cases_Bool (is_blank b)) [
  | inl h ↦ (let more = skipped bs in
      record { blanks = b ∷ more.blanks; blank = (h, more.blank); are = ap (λ r. b ∷ r) more.are ∙ ap (λ t. b ∷ (more.blanks ++ t)) (sym (rw h refl)) })
  | inr h ↦ record { blanks = []; blank = tt; are = sym (rw h refl) }
]

skip_plain : (rest : List ℕ) → StartsPlain rest → skip rest ≡ rest
skip_plain [] plain = refl
skip_plain (b ∷ bs) plain = rw plain refl

pub skip_past : (blanks rest : List ℕ) → AreBlanks blanks → StartsPlain rest → skip (blanks ++ rest) ≡ rest
skip_past [] rest blank plain = skip_plain rest plain
skip_past (b ∷ bs) rest blank plain = rw blank.0 (skip_past bs rest blank.1 plain)

-- ---- marks

abbrev pub starts_plain : List ℕ → Bool
starts_plain [] = false
starts_plain (b ∷ bs) = not (is_blank b)

plain_mark : (mark rest : List ℕ) → starts_plain mark ≡ true → StartsPlain (mark ++ rest)
plain_mark [] rest plain = absurd cc
plain_mark (b ∷ bs) rest plain = not-true (is_blank b) plain

pub mark_takes : (mark bytes rest : List ℕ) → mark_at mark bytes ≡ Some rest → IsAhead (Mark mark) bytes rest
unfolding mark_at
mark_takes mark bytes rest e =
    let s = skipped bytes in
    record { blanks = s.blanks; blank = s.blank; text = mark; of_part = refl; bytes_are = s.are ∙ ap (λ t. s.blanks ++ t) (after_takes mark (skip bytes) rest e) }

-- the bytes after the blanks before a mark
skip_to_mark : (mark bytes rest : List ℕ) → starts_plain mark ≡ true → IsAhead (Mark mark) bytes rest → skip bytes ≡ mark ++ rest
skip_to_mark mark bytes rest plain ahead =
    ap skip (ahead.bytes_are ∙ ap (λ t. ahead.blanks ++ (t ++ rest)) ahead.of_part) ∙ skip_past ahead.blanks (mark ++ rest) ahead.blank (plain_mark mark rest plain)

pub mark_again : (mark bytes rest : List ℕ) → starts_plain mark ≡ true → IsAhead (Mark mark) bytes rest → mark_at mark bytes ≡ Some rest
unfolding mark_at
mark_again mark bytes rest plain ahead = ap (after mark) (skip_to_mark mark bytes rest plain ahead) ∙ after_again mark rest

-- two marks that begin differently
abbrev pub begin_apart : List ℕ → List ℕ → Bool
begin_apart (m ∷ ms) (o ∷ os) = not (o == m)
begin_apart ms os = false

after_other : (mark other rest : List ℕ) → begin_apart mark other ≡ true → after mark (other ++ rest) ≡ None
unfolding after
after_other [] other rest apart = absurd cc
after_other (m ∷ ms) [] rest apart = absurd cc
after_other (m ∷ ms) (o ∷ os) rest apart = rw (not-true (o == m) apart) refl

pub mark_none : (mark other bytes rest : List ℕ) → begin_apart mark other ≡ true → starts_plain other ≡ true → IsAhead (Mark other) bytes rest → mark_at mark bytes ≡ None
unfolding mark_at
mark_none mark other bytes rest apart plain ahead = ap (after mark) (skip_to_mark other bytes rest plain ahead) ∙ after_other mark other rest apart

-- ---- digits

abbrev NoDigit : ℕ → List ℕ → Type 0
NoDigit base [] = Unit {0}
NoDigit base (b ∷ bs) = base ≤ digit_value b

record Taken (base n : ℕ) (bytes : List ℕ) : Type 0 where
  digits : List ℕ
  all : AllByRecursion (λ b. digit_value b < base) digits
  are : bytes ≡ digits ++ (onward base n bytes).1
  value : (onward base n bytes).0 ≡ value_on base n digits

taken : (base n : ℕ) (bytes : List ℕ) → Taken base n bytes
taken base n [] = record { digits = []; all = tt; are = refl; value = refl }
taken base n (b ∷ bs) = elim (cases_lt (digit_value b) base) [
  | inl lt ↦ (
      let on = onward_digit base n b bs lt in
      let more = taken base (n * base + digit_value b) bs in
      record {
        digits = b ∷ more.digits;
        all = (lt, more.all);
        are = ap (λ r. b ∷ r) more.are ∙ ap (λ (x : ℕ × List ℕ). b ∷ (more.digits ++ x.1)) (sym on);
        value = ap (λ (x : ℕ × List ℕ). x.0) on ∙ more.value;
      })
  | inr le ↦ (
      let on = onward_stop base n b bs le in
      record { digits = []; all = tt; are = sym (ap (λ (x : ℕ × List ℕ). x.1) on); value = ap (λ (x : ℕ × List ℕ). x.0) on })
]

onward_end : (base n : ℕ) (rest : List ℕ) → NoDigit base rest → onward base n rest ≡ (n, rest)
onward_end base n [] none = refl
onward_end base n (b ∷ bs) none = onward_stop base n b bs none

onward_again : (base n : ℕ) (digits rest : List ℕ) → AllByRecursion (λ b. digit_value b < base) digits → NoDigit base rest
    → onward base n (digits ++ rest) ≡ (value_on base n digits, rest)
onward_again base n [] rest all none = onward_end base n rest none
onward_again base n (d ∷ ds) rest all none = onward_digit base n d (ds ++ rest) all.0 ∙ onward_again base (n * base + digit_value d) ds rest all.1 none

-- a digit is a digit or a letter, and no blank
alphanumeric : (b : ℕ) → digit_value b < 16 → is_alphanumeric b ≡ true
unfolding digit_value
alphanumeric b lt = grind (arith, nat_tests)

plain_digit : (b : ℕ) → digit_value b < 16 → is_blank b ≡ false
unfolding digit_value
plain_digit b lt = grind (arith, nat_tests)

no_x : (b : ℕ) → digit_value b < 16 → (b == 120) ≡ false
unfolding digit_value
no_x b lt = grind (arith, nat_tests)

no_number_sign : (b : ℕ) → digit_value b < 16 → (b == 35) ≡ false
unfolding digit_value
no_number_sign b lt = grind (arith, nat_tests)

no_digit : (base : ℕ) (rest : List ℕ) → base ≤ 16 → NoneGoesOn rest → NoDigit base rest
no_digit base [] small none = tt
no_digit base (b ∷ bs) small none = elim (cases_lt (digit_value b) base) [
  | inl lt ↦ absurd (let yes = alphanumeric b (omega arith) in cc)
  | inr le ↦ le
]

none_goes_on : (rest : List ℕ) → goes_on rest ≡ false → NoneGoesOn rest
none_goes_on [] e = tt
none_goes_on (b ∷ bs) e = e

goes_on_none : (rest : List ℕ) → NoneGoesOn rest → goes_on rest ≡ false
goes_on_none [] none = refl
goes_on_none (b ∷ bs) none = none

record DigitsTaken (base : ℕ) (bytes : List ℕ) (x : ℕ × List ℕ) : Type 0 where
  text : List ℕ
  digits : AreDigits base x.0 text
  are : bytes ≡ text ++ x.1
  small : x.0 < 2 ^ 64
  none : NoneGoesOn x.1

digits_take : (base : ℕ) (bytes : List ℕ) (x : ℕ × List ℕ) → digits_at base bytes ≡ Some x → DigitsTaken base bytes x
unfolding digits_at
digits_take base [] x e = absurd cc
digits_take base (b ∷ bs) x e =
    let digit = guarded (nat_lt (digit_value b) base) (fitting (onward base 0 (b ∷ bs))) x e in
    let fit = guard_some (nat_lt (onward base 0 (b ∷ bs)).0 (2 ^ 64) && not (goes_on (onward base 0 (b ∷ bs)).1)) (onward base 0 (b ∷ bs)) x digit.1 in
    let both = and_parts (nat_lt (onward base 0 (b ∷ bs)).0 (2 ^ 64)) (not (goes_on (onward base 0 (b ∷ bs)).1)) fit.0 in
    let lt : digit_value b < base = ltb-true (digit_value b) base digit.0 in
    let on = onward_digit base 0 b bs lt in
    let more = taken base (0 * base + digit_value b) bs in
    subst (DigitsTaken base (b ∷ bs)) fit.1 (record {
      text = b ∷ more.digits;
      digits = record { some = λ e. cc; digits = (lt, more.all); value = ap (λ (y : ℕ × List ℕ). y.0) on ∙ more.value };
      are = ap (λ r. b ∷ r) more.are ∙ ap (λ (y : ℕ × List ℕ). b ∷ (more.digits ++ y.1)) (sym on);
      small = ltb-true (onward base 0 (b ∷ bs)).0 (2 ^ 64) both.0;
      none = none_goes_on (onward base 0 (b ∷ bs)).1 (not-true (goes_on (onward base 0 (b ∷ bs)).1) both.1);
    })
  where
    guarded : (t : Bool) (o : Option (ℕ × List ℕ)) (y : ℕ × List ℕ) → cond t o None ≡ Some y → (t ≡ true) × (o ≡ Some y)
    guarded true o y e = (refl, e)
    guarded false o y e = absurd cc

digits_again : (base n : ℕ) (text rest : List ℕ) → base ≤ 16 → AreDigits base n text → n < 2 ^ 64 → NoneGoesOn rest
    → digits_at base (text ++ rest) ≡ Some (n, rest)
unfolding digits_at
digits_again base n [] rest low digits small none = absurd (digits.some refl)
digits_again base n (d ∷ ds) rest low digits small none =
    sym (cond_below (digit_value d) base (fitting (onward base 0 (d ∷ (ds ++ rest)))) None digits.digits.0)
    ∙ ap fitting (onward_again base 0 (d ∷ ds) rest digits.digits (no_digit base rest low none))
    ∙ ap (λ m. fitting (m, rest)) (sym digits.value)
    ∙ sym (fits n rest small (goes_on_none rest none))

-- ---- numbers

-- a decimal number isn't `0x`
not_hexadecimal : (n : ℕ) (text rest : List ℕ) → AreDigits 10 n text → NoneGoesOn rest → after (codes "0x") (text ++ rest) ≡ None
unfolding after
not_hexadecimal n [] rest digits none = absurd (digits.some refl)
not_hexadecimal n (d ∷ []) rest digits none = second rest none
  where
    second : (rest : List ℕ) → NoneGoesOn rest → after (codes "0x") (d ∷ rest) ≡ None
    second [] none = elim (cases_Bool (d == 48)) [ inl h ↦ rw h refl | inr h ↦ rw h refl ]
    second (b ∷ bs) none =
        let other : (b == 120) ≡ false = no_letter b none in
        elim (cases_Bool (d == 48)) [ inl h ↦ rw (h, other) refl | inr h ↦ rw h refl ]
      where
        no_letter : (b : ℕ) → is_alphanumeric b ≡ false → (b == 120) ≡ false
        no_letter b none = grind (arith, nat_tests)
not_hexadecimal n (d ∷ e ∷ ds) rest digits none =
    let other : (e == 120) ≡ false = no_x e (omega (arith, digits.digits.1.0)) in
    elim (cases_Bool (d == 48)) [ inl h ↦ rw (h, other) refl | inr h ↦ rw h refl ]

plain_digits : (base n : ℕ) (text rest : List ℕ) → base ≤ 16 → AreDigits base n text → StartsPlain (text ++ rest)
plain_digits base n [] rest low digits = absurd (digits.some refl)
plain_digits base n (d ∷ ds) rest low digits = plain_digit d (omega (arith, digits.digits.0))

plain_numeral : (n : ℕ) (text rest : List ℕ) → IsNumeral n text → StartsPlain (text ++ rest)
plain_numeral n text rest (inl digits) = plain_digits 10 n text rest (omega arith) digits
plain_numeral n text rest (inr hex) = subst (λ t. StartsPlain (t ++ rest)) (sym hex.1) refl

skip_to_number : (n : ℕ) (bytes rest : List ℕ) (ahead : IsAhead (Number n) bytes rest) → skip bytes ≡ ahead.text ++ rest
skip_to_number n bytes rest ahead =
    ap skip ahead.bytes_are ∙ skip_past ahead.blanks (ahead.text ++ rest) ahead.blank (plain_numeral n ahead.text rest ahead.of_part.1)

pub number_takes : (bytes : List ℕ) (x : ℕ × List ℕ) → number_at bytes ≡ Some x → IsAhead (Number x.0) bytes x.1
unfolding number_at
number_takes bytes x e = go (after (codes "0x") (skip bytes)) refl e
  where
    found : (text : List ℕ) → (x.0 < 2 ^ 64) × IsNumeral x.0 text × NoneGoesOn x.1 → skip bytes ≡ text ++ x.1 → IsAhead (Number x.0) bytes x.1
    found text of_part are =
        let s = skipped bytes in
        record { blanks = s.blanks; blank = s.blank; text = text; of_part = of_part; bytes_are = s.are ∙ ap (λ t. s.blanks ++ t) are }

    go : (o : Option (List ℕ)) → after (codes "0x") (skip bytes) ≡ o → (if is_some o then (o >>= digits_at 16) else digits_at 10 (skip bytes)) ≡ Some x → IsAhead (Number x.0) bytes x.1
    go None is e =
        let d = digits_take 10 (skip bytes) x e in
        found d.text (d.small, inl d.digits, d.none) d.are
    go (Some hex) is e =
        let d = digits_take 16 hex x e in
        found (codes "0x" ++ d.text) (d.small, inr (d.text, refl, d.digits), d.none) (after_takes (codes "0x") (skip bytes) hex is ∙ ap (λ t. codes "0x" ++ t) d.are)

pub number_again : (n : ℕ) (bytes rest : List ℕ) → IsAhead (Number n) bytes rest → number_at bytes ≡ Some (n, rest)
unfolding number_at
number_again n bytes rest ahead = rw (skip_to_number n bytes rest ahead) (go ahead.text ahead.of_part)
  where
    go : (text : List ℕ) → (n < 2 ^ 64) × IsNumeral n text × NoneGoesOn rest
        → (if is_some (after (codes "0x") (text ++ rest)) then (after (codes "0x") (text ++ rest) >>= digits_at 16) else digits_at 10 (text ++ rest)) ≡ Some (n, rest)
    go text (small, inl digits, none) = rw (not_hexadecimal n text rest digits none) (digits_again 10 n text rest (omega arith) digits small none)
    go text (small, inr hex, none) =
        rw (hex.1, after_again (codes "0x") (hex.0 ++ rest)) (digits_again 16 n hex.0 rest (omega arith) hex.2 small none)

-- no number where another byte comes, or none
abbrev pub starts_other : List ℕ → Bool
starts_other [] = true
starts_other (b ∷ bs) = (b == 35) || (b == 58)

other_digit : (b : ℕ) → ((b == 35) || (b == 58)) ≡ true → (nat_lt (digit_value b) 10 ≡ false) × ((b == 48) ≡ false)
unfolding digit_value
other_digit b other = (grind (arith, nat_tests), grind (arith, nat_tests))

pub number_none : (bytes : List ℕ) → starts_other (skip bytes) ≡ true → number_at bytes ≡ None
unfolding number_at after digits_at
number_none bytes other = go (skip bytes) other
  where
    go : (xs : List ℕ) → starts_other xs ≡ true → (if is_some (after (codes "0x") xs) then (after (codes "0x") xs >>= digits_at 16) else digits_at 10 xs) ≡ None
    go [] other = refl
    go (b ∷ bs) other = let h = other_digit b other in rw (h.1, h.0) refl

pub number_none_at_mark : (mark bytes rest : List ℕ) → starts_plain mark ≡ true → starts_other mark ≡ true → IsAhead (Mark mark) bytes rest → number_at bytes ≡ None
number_none_at_mark [] bytes rest plain other ahead = absurd cc
number_none_at_mark (m ∷ ms) bytes rest plain other ahead =
    number_none bytes (ap starts_other (skip_to_mark (m ∷ ms) bytes rest plain ahead) ∙ other)

-- ---- the end

pub over_takes : (bytes : List ℕ) → is_over bytes ≡ true → IsOver bytes
unfolding is_over
over_takes bytes e = go (skip bytes) refl e
  where
    go : (xs : List ℕ) → skip bytes ≡ xs → is_nothing xs ≡ true → IsOver bytes
    go [] is e =
        let s = skipped bytes in
        record { blanks = s.blanks; blank = s.blank; comment = []; of_comment = inl refl; bytes_are = s.are ∙ ap (λ t. s.blanks ++ t) is }
    go (b ∷ bs) is e =
        let s = skipped bytes in
        let sign : b ≡ 35 = eqb-true b 35 e in
        record { blanks = s.blanks; blank = s.blank; comment = b ∷ bs; of_comment = inr (bs, ap (λ c. c ∷ bs) sign); bytes_are = s.are ∙ ap (λ t. s.blanks ++ t) is }

pub skip_to_end : (bytes : List ℕ) (over : IsOver bytes) → skip bytes ≡ over.comment
skip_to_end bytes over = ap skip over.bytes_are ∙ skip_past over.blanks over.comment over.blank (plain over.comment over.of_comment)
  where
    plain : (comment : List ℕ) → (comment ≡ []) ⊎ ((words : List ℕ) × (comment ≡ codes "#" ++ words)) → StartsPlain comment
    plain comment (inl none) = subst StartsPlain (sym none) tt
    plain comment (inr some) = subst StartsPlain (sym some.1) refl

pub over_again : (bytes : List ℕ) → IsOver bytes → is_over bytes ≡ true
unfolding is_over
over_again bytes over = ap is_nothing (skip_to_end bytes over) ∙ go over.comment over.of_comment
  where
    go : (comment : List ℕ) → (comment ≡ []) ⊎ ((words : List ℕ) × (comment ≡ codes "#" ++ words)) → is_nothing comment ≡ true
    go comment (inl none) = ap is_nothing none
    go comment (inr some) = ap is_nothing some.1

pub number_none_at_end : (bytes : List ℕ) → IsOver bytes → number_at bytes ≡ None
number_none_at_end bytes over = number_none bytes (ap starts_other (skip_to_end bytes over) ∙ go over.comment over.of_comment)
  where
    go : (comment : List ℕ) → (comment ≡ []) ⊎ ((words : List ℕ) × (comment ≡ codes "#" ++ words)) → starts_other comment ≡ true
    go comment (inl none) = ap starts_other none
    go comment (inr some) = ap starts_other some.1

-- a number is more
pub not_over : (n : ℕ) (bytes rest : List ℕ) → IsAhead (Number n) bytes rest → is_over bytes ≡ false
unfolding is_over
not_over n bytes rest ahead = ap is_nothing (skip_to_number n bytes rest ahead) ∙ go ahead.text ahead.of_part.1
  where
    digits : (base : ℕ) (text : List ℕ) → base ≤ 16 → AreDigits base n text → is_nothing (text ++ rest) ≡ false
    digits base [] low all = absurd (all.some refl)
    digits base (d ∷ ds) low all = no_number_sign d (omega (arith, all.digits.0))

    go : (text : List ℕ) → IsNumeral n text → is_nothing (text ++ rest) ≡ false
    go text (inl all) = digits 10 text (omega arith) all
    go text (inr hex) = ap (λ t. is_nothing (t ++ rest)) hex.1
