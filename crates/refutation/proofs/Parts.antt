-- The parts of a step's line: what is read is the text that stands there, and that text is read again.
use Rattle.std.proofs.Common.{rules, ◌≡◌, ℕ, Bool, true, false, if◌then◌else◌, List, [], ◌∷◌, ◌++◌, Option, Some, None, refl, sym, ap, subst, ◌∙◌, append_assoc, append-nil}
use Rattle.std.specs.Prelude.{codes}
use Rattle.std.proofs.lemmas.Option.{none-some}
use Rattle.decimal_text.specs.Numbers.{numeral}
use Rattle.decimal_text.specs.Reading.{◌>>=◌, after, field_at, number_at}
use Rattle.decimal_text.proofs.Numbers.{NoDigit, after_takes, after_again, number_takes, number_again}
use Rattle.decimal_text.proofs.Reading.{bind_some, some_is, field_takes, field_again}
use Rattle.line_stamps.proofs.Ids.{same_id-true, same_id-refl}
use Rattle.mem_op.specs.declared.id.OpId.{OpId}
use Rattle.mem_op.specs.Limits.{operation_limit}
use Rattle.refutation.specs.declared.step.Point.{Point}
use Rattle.refutation.specs.declared.step.Point.TheVariants.{Init, At}
use Rattle.refutation.specs.declared.step.Range.{Range}
use Rattle.refutation.specs.Grammar.{id_text, point_text, is_same_point, range_text, IdFits, PointFits, RangeFits}
use Rattle.refutation.specs.inner.Reading.{id_at, as_point, point_at, last_at, range_at, named_at}
use Rattle.text_lines.specs.Fields.{below}
use Rattle.text_lines.specs.Words.{at_end, ends_word}
use Rattle.text_lines.proofs.Fields.{below_again, below_is, named_or}
use Rattle.text_lines.proofs.SpacedWords.{HasWords, at_end_is, ends_no_digit}

-- ---- ids

pub id_takes : (bytes : List ℕ) (x : OpId × List ℕ) → id_at bytes ≡ Some x → (bytes ≡ id_text x.0 ++ x.1) × IdFits x.0
unfolding id_at id_text
id_takes bytes x e =
    let core = bind_some (field_at 46 bytes) _ x e in
    let index = bind_some (number_at core.0.1) _ x core.2 in
    let c = bind_some (below 64 core.0.0) _ x index.2 in
    let i = bind_some (below operation_limit index.0.0) _ x c.2 in
    let found : OpId × List ℕ = (record { core = c.0; index = i.0 }, index.0.1) in
    let g = below_is 64 core.0.0 c.0 c.1 in
    let h = below_is operation_limit index.0.0 i.0 i.1 in
    let text = field_takes 46 bytes core.0 core.1 ∙ ap (λ r. numeral core.0.0 ++ 46 ∷ r) (number_takes core.0.1 index.0 index.1) ∙ sym (append_assoc (numeral core.0.0) (46 ∷ numeral index.0.0) index.0.1)
    ∙ ap (λ (n : ℕ). (numeral n ++ 46 ∷ numeral index.0.0) ++ index.0.1) g.0 ∙ ap (λ (n : ℕ). (numeral c.0 ++ 46 ∷ numeral n) ++ index.0.1) h.0 in
    rw (← some_is found x i.2) (text, (g.1, h.1))

pub id_again : (id : OpId) (rest : List ℕ) → IdFits id → NoDigit rest → id_at (id_text id ++ rest) ≡ Some (id, rest)
unfolding id_at id_text
id_again id rest fits none =
    rw (append_assoc, field_again 46 id.core (numeral id.index ++ rest) refl, number_again id.index rest none) (
    rw (below_again 64 id.core fits.0, below_again operation_limit id.index fits.1) refl)

-- ---- points

pub point_takes : (bytes : List ℕ) (x : Point × List ℕ) → point_at bytes ≡ Some x → (bytes ≡ point_text x.0 ++ x.1) × PointFits x.0
unfolding point_at
point_takes bytes x e =
    named_or (λ y. point_text y.0 ++ y.1) (λ y. PointFits y.0) (codes "init") (λ rest. Some (Init, rest)) bytes (id_at bytes >>= as_point) x
    (λ rest is. rw (← some_is (Init, rest) x is) (refl, tt)) (λ is.
    let b = bind_some (id_at bytes) as_point x is in
    rw (← some_is (At b.0.0, b.0.1) x b.2) (id_takes bytes b.0 b.1)) e

-- no id begins with the word
id_not_init : (id : OpId) (rest : List ℕ) → after (codes "init") (id_text id ++ rest) ≡ None
unfolding id_text number_at
id_not_init id rest = go (after (codes "init") (id_text id ++ rest)) refl
  where
    go : (o : Option (List ℕ)) → after (codes "init") (id_text id ++ rest) ≡ o → after (codes "init") (id_text id ++ rest) ≡ None
    go None e = e
    go (Some r) e =
        let text = sym (after_takes (codes "init") (id_text id ++ rest) r e) ∙ append_assoc (numeral id.core) (46 ∷ numeral id.index) rest in
        absurd (none-some _ (ap number_at text ∙ number_again id.core (46 ∷ (numeral id.index ++ rest)) refl))

pub point_again : (p : Point) (rest : List ℕ) → PointFits p → NoDigit rest → point_at (point_text p ++ rest) ≡ Some (p, rest)
unfolding point_at
point_again p rest fits none = search (rules, after_again, id_not_init, id_again)

-- ---- ranges

pub same_point : (p q : Point) → is_same_point p q ≡ true → p ≡ q
same_point p q e = search (rules, same_id-true)

same_self : (p : Point) → is_same_point p p ≡ true
same_self p = search (rules, same_id-refl)

-- a test that has to fail
unless_some : {A : Type 0} (b : Bool) (o : Option A) (x : A) → (if b then None else o) ≡ Some x → (b ≡ false) × (o ≡ Some x)
unless_some b o x e = search rules

-- what comes after a range's first point
abbrev rest_text : Range → List ℕ
rest_text range = if is_same_point range.first range.last then [] else codes ".." ++ point_text range.last

-- what is read is a range from a point on, and a rest at which a word ends
abbrev IsFrom : Point → Range × List ℕ → Type 0
IsFrom first x = (x.0.first ≡ first) × PointFits x.0.last × (ends_word x.1 ≡ true)

last_takes : (first : Point) (bytes : List ℕ) (x : Range × List ℕ) → last_at first bytes ≡ Some x
    → (codes ".." ++ bytes ≡ rest_text x.0 ++ x.1) × IsFrom first x
unfolding last_at
last_takes first bytes x e =
    let last = bind_some (point_at bytes) _ x e in
    let range : Range = record { first = first; last = last.0.0 } in
    let test = unless_some (is_same_point first last.0.0) (at_end range last.0.1) x last.2 in
    let end = at_end_is range last.0.1 x test.1 in
    let point = point_takes bytes last.0 last.1 in
    rw (← end.0, test.0) (ap (λ r. codes ".." ++ r) point.0, (refl, point.1, end.1))

range_takes : (bytes : List ℕ) (x : Range × List ℕ) → range_at bytes ≡ Some x
    → RangeFits x.0 × (bytes ≡ 32 ∷ (range_text x.0 ++ x.1)) × (ends_word x.1 ≡ true)
unfolding range_at range_text
range_takes bytes x e =
    let first = bind_some (after (codes " ") bytes >>= point_at) _ x e in
    let space = bind_some (after (codes " ") bytes) point_at first.0 first.1 in
    let point = point_takes space.0 first.0 space.2 in
    let one : Range = record { first = first.0.0; last = first.0.0 } in
    let rest = named_or (λ y. rest_text y.0 ++ y.1) (IsFrom first.0.0) (codes "..") (last_at first.0.0) first.0.1 (at_end one first.0.1) x
    (λ r is. last_takes first.0.0 r x is) (λ is.
    let end = at_end_is one first.0.1 x is in
    subst (λ y. (first.0.1 ≡ rest_text y.0 ++ y.1) × IsFrom first.0.0 y) end.0 (rw (same_self first.0.0) (refl, (refl, point.1, end.1)))) first.2 in
    let text = after_takes (codes " ") bytes space.0 space.1 ∙ ap (λ (r : List ℕ). 32 ∷ r) (point.0 ∙ ap (λ r. point_text first.0.0 ++ r) rest.0) in
    let whole = append_assoc (point_text x.0.first) (rest_text x.0) x.1 in
    ((subst PointFits (sym rest.1.0) point.1, rest.1.1), rw whole (rw (← rest.1.0) at text), rest.1.2)

-- no word ends at dots
ends_no_dots : (rest : List ℕ) → ends_word rest ≡ true → after (codes "..") rest ≡ None
unfolding after
ends_no_dots rest e = search rules

range_again : (range : Range) (rest : List ℕ) → RangeFits range → ends_word rest ≡ true → range_at (32 ∷ (range_text range ++ rest)) ≡ Some (range, rest)
unfolding range_at last_at range_text
range_again range rest fits ends = go (is_same_point range.first range.last) refl
  where
    go : (b : Bool) → is_same_point range.first range.last ≡ b → range_at (32 ∷ (range_text range ++ rest)) ≡ Some (range, rest)
    go true same =
        rw (same, append-nil, after_again (codes " ") (point_text range.first ++ rest))
        (rw (point_again range.first rest fits.0 (ends_no_digit rest ends), ends_no_dots rest ends, ends)
        (ap (λ (p : Point). Some (record { first = range.first; last = p }, rest)) (same_point range.first range.last same)))
    go false apart =
        let behind = point_text range.last ++ rest in
        let all = point_text range.first ++ (codes ".." ++ behind) in
        rw (apart, append_assoc (point_text range.first) (codes ".." ++ point_text range.last) rest, after_again (codes " ") all)
        (rw (point_again range.first (codes ".." ++ behind) fits.0 refl, after_again (codes "..") behind)
        (rw (point_again range.last rest fits.1 (ends_no_digit rest ends), apart, ends) refl))

pub ranges_are_words : HasWords range_text RangeFits range_at
ranges_are_words = record { takes = λ bytes x rest e. range_takes bytes (x, rest) e; again = range_again }

-- ---- what comes before a list

pub named_takes : (bytes : List ℕ) (x : OpId × List ℕ) → named_at bytes ≡ Some x → (bytes ≡ id_text x.0 ++ (codes " :" ++ x.1)) × IdFits x.0
unfolding named_at
named_takes bytes x e =
    let id = bind_some (id_at bytes) _ x e in
    let rest = bind_some (after (codes " :") id.0.1) _ x id.2 in
    let t = id_takes bytes id.0 id.1 in
    let text = t.0 ∙ ap (λ (r : List ℕ). id_text id.0.0 ++ r) (after_takes (codes " :") id.0.1 rest.0 rest.1) in
    rw (← some_is (id.0.0, rest.0) x rest.2) (text, t.1)

pub named_again : (id : OpId) (rest : List ℕ) → IdFits id → named_at (id_text id ++ (codes " :" ++ rest)) ≡ Some (id, rest)
unfolding named_at
named_again id rest fits = rw (id_again id (codes " :" ++ rest) fits refl, after_again (codes " :") rest) refl
