-- The first line of a text that isn't as its grammar says.
use Rattle.std.proofs.Common.{◌≡◌, ℕ, zero, suc, ◌+◌, ◌-◌, ◌<◌, ◌≤◌, List, [], ◌∷◌, ◌++◌, length, take, drop, refl, sym, ap, subst, ◌∙◌, arith, inl, inr, append_assoc, append-nil, length-append}
use Rattle.std.specs.List.{AllByRecursion}
use Rattle.std.proofs.lemmas.Bool.{cases_lt}
use Rattle.std.proofs.lemmas.List.{take-append-drop, length-take-le}
use Rattle.std.proofs.Math.Seq.{take-append_seam}
use Rattle.decimal_text.proofs.Lines.{NoLf}
use Rattle.text_lines.specs.Lines.{text_of, IsText, BeginsText, IsFirstWrong}
use Rattle.text_lines.proofs.TextLines.{line_once, text_of-append, text_of-cons}

-- ---- lists of lines

abbrev pub EachNoLf : List (List ℕ) → Type 0
EachNoLf lines = AllByRecursion NoLf lines

EachNoLf-front : (front back : List (List ℕ)) → EachNoLf (front ++ back) → EachNoLf front
EachNoLf-front [] back none = tt
EachNoLf-front (line ∷ front) back none = (none.0, EachNoLf-front front back none.1)

pub EachNoLf-append : (front back : List (List ℕ)) → EachNoLf front → EachNoLf back → EachNoLf (front ++ back)
EachNoLf-append [] back p q = q
EachNoLf-append (line ∷ front) back p q = (p.0, EachNoLf-append front back p.1 q)

-- bytes that begin with some lines and with as many or more lines begin with the first ones, and then with the others
lines_cut : (front lines : List (List ℕ)) (xs ys : List ℕ) → EachNoLf front → EachNoLf lines → length front ≤ length lines
    → text_of front ++ xs ≡ text_of lines ++ ys → (more : List (List ℕ)) × (lines ≡ front ++ more) × (xs ≡ text_of more ++ ys)
lines_cut [] lines xs ys p q le e = (lines, refl, e)
lines_cut (l ∷ front) [] xs ys p q le e = absurd (omega arith)
lines_cut (l ∷ front) (m ∷ lines) xs ys p q le e =
    let first = line_once l m (text_of front ++ xs) (text_of lines ++ ys) p.0 q.0 (sym (text_of-cons l front xs) ∙ e ∙ text_of-cons m lines ys) in
    let cut = lines_cut front lines xs ys p.1 q.1 (omega arith) first.1 in
    let l-is : l ≡ m = first.0 in
    let lines-are : lines ≡ front ++ cut.0 = cut.1 in
    (cut.0, cc, cut.2)

-- no bytes are no lines
pub no_bytes : (lines : List (List ℕ)) (rest : List ℕ) → 0 < length lines → text_of lines ++ rest ≡ [] → ⊥
no_bytes [] rest some e = omega arith
no_bytes (line ∷ lines) rest some e = omega (arith, ap length (sym (text_of-cons line lines rest) ∙ e), length-append line (10 ∷ (text_of lines ++ rest)))

-- bytes begin with a number of lines in one way only
pub lines_once : (front lines : List (List ℕ)) (xs ys : List ℕ) → EachNoLf front → EachNoLf lines → length front ≡ length lines
    → text_of front ++ xs ≡ text_of lines ++ ys → (front ≡ lines) × (xs ≡ ys)
lines_once front lines xs ys p q same e = go (lines_cut front lines xs ys p q (omega arith) e)
  where
    go : (more : List (List ℕ)) × (lines ≡ front ++ more) × (xs ≡ text_of more ++ ys) → (front ≡ lines) × (xs ≡ ys)
    go ([], is, rest) = (sym (is ∙ append-nil front), rest)
    go (next ∷ more, is, rest) = absurd (omega (arith, ap length is, length-append front (next ∷ more)))

-- lines are those of one text
pub text_once : (lines others : List (List ℕ)) → EachNoLf lines → EachNoLf others → text_of lines ≡ text_of others → lines ≡ others
text_once lines others p q e =
    elim (cases_lt (length lines) (length others)) [
      | inl less ↦ shorter lines others p q less e
      | inr ge ↦ elim (cases_lt (length others) (length lines)) [
        | inl less ↦ sym (shorter others lines q p less (sym e))
        | inr le ↦ (lines_once lines others [] [] p q (omega arith) (append-nil (text_of lines) ∙ e ∙ sym (append-nil (text_of others)))).0
      ]
    ]
  where
    shorter : (few many : List (List ℕ)) → EachNoLf few → EachNoLf many → length few < length many → text_of few ≡ text_of many → few ≡ many
    shorter few many f m less e =
        let cut = lines_cut few many [] [] f m (omega arith) (append-nil (text_of few) ∙ e ∙ sym (append-nil (text_of many))) in
        absurd (no_bytes cut.0 [] (omega (arith, ap length cut.1, length-append few cut.0)) (sym cut.2))

-- ---- grammars

-- a grammar whose lines have no line feed
abbrev pub HasLines : (List (List ℕ) → Type 0) → Type 0
HasLines Grammar = (lines : List (List ℕ)) → Grammar lines → EachNoLf lines

-- more lines may come after these
abbrev pub CanGoOn : (List (List ℕ) → Type 0) → List (List ℕ) → Type 0
CanGoOn Grammar front = (more : List (List ℕ)) × Grammar (front ++ more)

-- no line that may come after these begins the bytes
abbrev pub NoneFollows : (List (List ℕ) → Type 0) → List (List ℕ) → List ℕ → Type 0
NoneFollows Grammar front rest =
    (next : List ℕ) (more : List (List ℕ)) (behind : List ℕ) → Grammar (front ++ next ∷ more) → rest ≡ next ++ 10 ∷ behind → ⊥

pub begins : (Grammar : List (List ℕ) → Type 0) (front : List (List ℕ)) (bytes rest : List ℕ) → bytes ≡ text_of front ++ rest
    → CanGoOn Grammar front → BeginsText Grammar bytes (length front)
begins Grammar front bytes rest is can = record {
  lines = front ++ can.0;
  of_text = can.1;
  enough = omega (arith, length-append front can.0);
  rest = rest;
  begins = is ∙ ap (λ (ls : List (List ℕ)). text_of ls ++ rest) (sym (take-append_seam front can.0));
}

-- Lines that can go on, with no line after them that may follow, are all that is right.
pub wrong_behind : (Grammar : List (List ℕ) → Type 0) (front : List (List ℕ)) (bytes rest : List ℕ) (k : ℕ) → HasLines Grammar
    → bytes ≡ text_of front ++ rest → k ≡ length front + 1 → CanGoOn Grammar front → NoneFollows Grammar front rest
    → (rest ≡ [] → Grammar front → ⊥) → IsFirstWrong Grammar bytes k
wrong_behind Grammar front bytes rest k has is k-is can none unended =
    subst (IsFirstWrong Grammar bytes) (sym k-is) (record {
      counted = omega arith;
      before = subst (BeginsText Grammar bytes) (omega arith) (begins Grammar front bytes rest is can);
      wrong = wrong;
      no_text = no_text;
    })
  where
    one : EachNoLf front
    one = EachNoLf-front front can.0 (has (front ++ can.0) can.1)

    -- lines that begin with these and go on
    goes_on : (more behind : List (List ℕ)) (last : List ℕ) → Grammar ((front ++ more) ++ behind) → 0 < length more → rest ≡ text_of more ++ last → ⊥
    goes_on [] behind last g some e = omega arith
    goes_on (next ∷ more) behind last g some e =
        none next (more ++ behind) (text_of more ++ last) (subst Grammar (append_assoc front (next ∷ more) behind) g) (e ∙ text_of-cons next more last)

    wrong : BeginsText Grammar bytes (length front + 1) → ⊥
    wrong b =
        let n = length front + 1 in
        let first = take n b.lines in
        let split = take-append-drop n b.lines in
        let counted = length-take-le n b.lines b.enough in
        let cut = lines_cut front first rest b.rest one (EachNoLf-front first (drop n b.lines) (subst EachNoLf (sym split) (has b.lines b.of_text)))
        (omega (arith, counted)) (sym is ∙ b.begins) in
        goes_on cut.0 (drop n b.lines) b.rest (subst Grammar (sym split ∙ ap (λ (ls : List (List ℕ)). ls ++ drop n b.lines) cut.1) b.of_text)
        (omega (arith, ap length cut.1, length-append front cut.0, counted)) cut.2

    whole : (lines more : List (List ℕ)) → Grammar lines → lines ≡ front ++ more → rest ≡ text_of more ++ [] → ⊥
    whole lines [] g lines-are e = unended e (subst Grammar (lines-are ∙ append-nil front) g)
    whole lines (next ∷ more) g lines-are e =
        goes_on (next ∷ more) [] [] (subst Grammar (lines-are ∙ sym (append-nil (front ++ next ∷ more))) g) (omega arith) e

    no_text : IsText Grammar bytes → ⊥
    no_text (lines, (g, e)) =
        let same : text_of front ++ rest ≡ text_of lines ++ [] = sym is ∙ e ∙ sym (append-nil (text_of lines)) in
        elim (cases_lt (length lines) (length front)) [
          | inl few ↦
              let cut = lines_cut lines front [] rest (has lines g) one (omega arith) (sym same) in
              no_bytes cut.0 rest (omega (arith, ap length cut.1, length-append lines cut.0)) (sym cut.2)
          | inr ge ↦ let cut = lines_cut front lines rest [] one (has lines g) ge same in whole lines cut.0 g cut.1 cut.2
        ]

-- ---- the first wrong line is one

take-take : {X : Type 0} (j k : ℕ) (xs : List X) → j ≤ k → take j (take k xs) ≡ take j xs
take-take zero k xs le = refl
take-take (suc j) zero xs le = absurd (omega arith)
take-take (suc j) (suc k) [] le = refl
take-take (suc j) (suc k) (x ∷ xs) le = ap (λ ys. x ∷ ys) (take-take j k xs (omega arith))

begins_less : (Grammar : List (List ℕ) → Type 0) (bytes : List ℕ) (j k : ℕ) → j ≤ k → BeginsText Grammar bytes k → BeginsText Grammar bytes j
begins_less Grammar bytes j k le b =
    let front : take k b.lines ≡ take j b.lines ++ drop j (take k b.lines) =
    sym (take-append-drop j (take k b.lines)) ∙ ap (λ (ls : List (List ℕ)). ls ++ drop j (take k b.lines)) (take-take j k b.lines le) in
    record {
      lines = b.lines;
      of_text = b.of_text;
      enough = omega (arith, b.enough);
      rest = text_of (drop j (take k b.lines)) ++ b.rest;
      begins =
          b.begins ∙ ap (λ (ls : List (List ℕ)). text_of ls ++ b.rest) front
          ∙ ap (λ (xs : List ℕ). xs ++ b.rest) (text_of-append (take j b.lines) (drop j (take k b.lines)))
          ∙ append_assoc (text_of (take j b.lines)) (text_of (drop j (take k b.lines))) b.rest;
    }

not_before : (Grammar : List (List ℕ) → Type 0) (bytes : List ℕ) (j k : ℕ) → IsFirstWrong Grammar bytes j → IsFirstWrong Grammar bytes k → j < k → ⊥
not_before Grammar bytes j k p q lt = p.wrong (begins_less Grammar bytes j (k - 1) (omega arith) q.before)

pub wrong_once : (Grammar : List (List ℕ) → Type 0) (bytes : List ℕ) (j k : ℕ) → IsFirstWrong Grammar bytes j → IsFirstWrong Grammar bytes k → j ≡ k
wrong_once Grammar bytes j k p q =
    elim (cases_lt j k) [
      | inl lt ↦ absurd (not_before Grammar bytes j k p q lt)
      | inr ge ↦ elim (cases_lt k j) [
        | inl lt ↦ absurd (not_before Grammar bytes k j q p lt)
        | inr le ↦ omega arith
      ]
    ]
