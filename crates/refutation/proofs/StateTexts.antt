-- The text of a set of states is that of no other.
use Rattle.std.proofs.Common.{◌≡◌, ℕ, ◌<◌, ◌^◌, true, List, [], ◌∷◌, ◌++◌, length, None, refl, sym, ap, subst, ◌∙◌, arith, rules, append_assoc, append-nil, length-append}
use Rattle.std.specs.Prelude.{codes, flat_map}
use Rattle.std.specs.List.{AllByRecursion}
use Rattle.std.proofs.lemmas.Grind.{flat_map-append}
use Rattle.std.proofs.lemmas.List.{append_cancel_left}
use Rattle.decimal_text.specs.Numbers.{numeral}
use Rattle.decimal_text.specs.Reading.{after, number_at}
use Rattle.decimal_text.proofs.Lines.{NoLf, NoLf-append, numeral_no_lf}
use Rattle.refutation.specs.declared.state.State.{State}
use Rattle.refutation.specs.declared.state.State.TheVariants.{Open, Dead}
use Rattle.refutation.specs.Grammar.{state_text, PathFits, StateFits}
use Rattle.refutation.specs.inner.StateLines.{PartInFront, NoPartInFront, StateInFront, NoStateInFront}
use Rattle.text_lines.specs.Words.{ends_word, spaced, spaced_number}
use Rattle.text_lines.proofs.Items.{each_push}
use Rattle.text_lines.proofs.SpacedWords.{WordsSoFar, numbers_are_words, spaced_no_lf, words_once}

-- ---- where no number is read, and no word goes on

abbrev Stops : List ℕ → Type 0
Stops rest = (spaced_number rest ≡ None) × (ends_word rest ≡ true)

stops-colon : (rest : List ℕ) → Stops (codes " :" ++ rest)
unfolding spaced_number after number_at
stops-colon rest = (refl, refl)

stops-nil : Stops []
unfolding spaced_number after
stops-nil = (refl, refl)

stops-states : (states : List State) (rest : List ℕ) → Stops rest → Stops (flat_map state_text states ++ rest)
unfolding spaced_number after number_at state_text
stops-states [] rest stops = stops
stops-states (Open next words ∷ states) rest stops = (refl, refl)
stops-states (Dead next words limits ∷ states) rest stops = (refl, refl)

set-stops : (set : List State) → Stops (flat_map state_text set)
set-stops set = subst Stops (append-nil (flat_map state_text set)) (stops-states set [] stops-nil)

-- ---- a sign and numbers in front

part : {sign bytes numbers rest : List ℕ} → PathFits numbers → Stops rest
    → bytes ≡ sign ++ (spaced numeral numbers ++ rest) → PartInFront sign bytes numbers rest
part each stops text = record { each = each; text = text; none = stops.0; ends = stops.1 }

pub part-once : {sign bytes other xs ys rest more : List ℕ} → bytes ≡ other → PartInFront sign bytes xs rest → PartInFront sign other ys more
    → (xs ≡ ys) × (rest ≡ more)
part-once {sign} {bytes} {other} {xs} {ys} {rest} {more} same a b = search (rules, words_once, numbers_are_words, append_cancel_left)

-- none, where a word goes on after the numbers
pub part-goes-on : {sign bytes fields xs rest : List ℕ} → bytes ≡ sign ++ fields → WordsSoFar numeral (λ number. number < 2 ^ 64) fields xs rest
    → spaced_number rest ≡ None → (ends_word rest ≡ true → ⊥) → NoPartInFront sign bytes
part-goes-on {sign} {bytes} {fields} {xs} {rest} is far none stop ys more b = search (rules, append_cancel_left, words_once, numbers_are_words)

-- ---- a state in front

abbrev sign_of : List ℕ → ℕ
sign_of [] = 0
sign_of (b ∷ []) = 0
sign_of (b ∷ c ∷ bs) = c

-- the signs of two states differ
signs-differ : {bytes n m r s : List ℕ} → PartInFront (codes " |") bytes n r → PartInFront (codes " !") bytes m s → ⊥
signs-differ a b = let e = ap sign_of (sym a.text ∙ b.text) in omega (arith, e)

pub no-words : {bytes n r : List ℕ} → PartInFront (codes " |") bytes n r → NoPartInFront (codes " :") r → NoStateInFront bytes
no-words a none (Open m w) rest there = none w rest (rw (← (part-once refl a there.1).1) at there.2)
no-words a none (Dead m w l) rest there = signs-differ a there.2

-- none of the first sign is there, and none of the second with these parts
pub no-dead : {bytes : List ℕ} → NoPartInFront (codes " |") bytes
    → ((n v l rest : List ℕ) → StateInFront (Dead n v l) bytes rest → ⊥) → NoStateInFront bytes
no-dead first second (Open n w) rest there = first n there.0 there.1
no-dead first second (Dead n w l) rest there = second n w l rest there

-- a state in front is one
state-once : (bytes : List ℕ) (s t : State) (rest more : List ℕ) → StateInFront s bytes rest → StateInFront t bytes more → (s ≡ t) × (rest ≡ more)
state-once bytes (Open n v) (Open m w) rest more a b =
    let first = part-once refl a.1 b.1 in
    let last = part-once first.1 a.2 b.2 in
    (λ i. Open (first.0 i) (last.0 i), last.1)
state-once bytes (Open n v) (Dead m w l) rest more a b = absurd (signs-differ a.1 b.2)
state-once bytes (Dead n v l) (Open m w) rest more a b = absurd (signs-differ b.1 a.2)
state-once bytes (Dead n v l) (Dead m w k) rest more a b =
    let first = part-once refl a.2 b.2 in
    let second = part-once first.1 a.3 b.3 in
    let last = part-once second.1 a.4 b.4 in
    (λ i. Dead (first.0 i) (second.0 i) (last.0 i), last.1)

-- it is its text
state-is : (state : State) (bytes rest : List ℕ) → StateInFront state bytes rest → StateFits state × (bytes ≡ state_text state ++ rest) × Stops rest
unfolding state_text
state-is (Open n w) bytes rest there =
    ((there.1.each, there.2.each), simp append_assoc (rw there.2.text at there.1.text), (there.2.none, there.2.ends))
state-is (Dead n w l) bytes rest there =
    ((there.2.each, there.3.each, there.4.each), simp append_assoc (rw (there.3.text, there.4.text) at there.2.text), (there.4.none, there.4.ends))

state-front : (state : State) (bytes rest : List ℕ) → StateFits state → Stops rest → bytes ≡ state_text state ++ rest → StateInFront state bytes rest
unfolding state_text
state-front (Open n w) bytes rest fits stops is =
    let behind = codes " :" ++ (spaced numeral w ++ rest) in
    (behind, part fits.0 (stops-colon (spaced numeral w ++ rest)) (simp append_assoc at is), part fits.1 stops refl)
state-front (Dead n w l) bytes rest fits stops is =
    let last = codes " :" ++ (spaced numeral l ++ rest) in
    let behind = codes " :" ++ (spaced numeral w ++ last) in
    let first = part fits.0 (stops-colon (spaced numeral w ++ last)) (simp append_assoc at is) in
    (behind, last, first, part fits.1 (stops-colon (spaced numeral l ++ rest)) refl, part fits.2 stops refl)

state_shorter : (state : State) (rest behind : List ℕ) → StateInFront state rest behind → length behind < length rest
unfolding state_text
state_shorter (Open n w) rest behind there =
    omega (arith, ap length (state-is (Open n w) rest behind there).1, length-append (state_text (Open n w)) behind)
state_shorter (Dead n w l) rest behind there =
    omega (arith, ap length (state-is (Dead n w l) rest behind there).1, length-append (state_text (Dead n w l)) behind)

nil-no-state : NoStateInFront []
nil-no-state state rest there = omega (arith, state_shorter state [] rest there)

-- ---- states so far

pub record StatesSoFar (text : List ℕ) (states : List State) (rest : List ℕ) : Type 0 where
  pub each : AllByRecursion StateFits states
  pub text_is : text ≡ flat_map state_text states ++ rest
  pub none : spaced_number rest ≡ None
  pub ends : ends_word rest ≡ true

pub states-more : (text rest behind : List ℕ) (states : List State) (state : State) → StatesSoFar text states rest → StateInFront state rest behind
    → StatesSoFar text (states ++ state ∷ []) behind
states-more text rest behind states state far there =
    let is = state-is state rest behind there in
    record {
      each = each_push StateFits states state far.each is.0;
      text_is = rw is.1 at far.text_is ∙ sym (simp (flat_map-append, append_assoc, append-nil));
      none = is.2.0;
      ends = is.2.1;
    }

-- where no state is in front, the states so far are those of a text of states, and the bytes are at their end
states-once : (xs ys : List State) (rest : List ℕ) → AllByRecursion StateFits xs → AllByRecursion StateFits ys → Stops rest → NoStateInFront rest
    → flat_map state_text xs ++ rest ≡ flat_map state_text ys → (xs ≡ ys) × (rest ≡ [])
states-once [] [] rest p q stops last e = (refl, e)
states-once [] (y ∷ ys) rest p q stops last e =
    absurd (last y (flat_map state_text ys) (state-front y rest (flat_map state_text ys) q.0 (set-stops ys) e))
states-once (x ∷ xs) [] rest p q stops last e =
    let text = sym e ∙ append_assoc (state_text x) (flat_map state_text xs) rest in
    absurd (nil-no-state x _ (state-front x [] (flat_map state_text xs ++ rest) p.0 (stops-states xs rest stops) text))
states-once (x ∷ xs) (y ∷ ys) rest p q stops last e =
    let text = sym e ∙ append_assoc (state_text x) (flat_map state_text xs) rest in
    let one = state-front x (flat_map state_text (y ∷ ys)) (flat_map state_text xs ++ rest) p.0 (stops-states xs rest stops) text in
    let same = state-once _ x y _ _ one (state-front y _ (flat_map state_text ys) q.0 (set-stops ys) refl) in
    let later = states-once xs ys rest p.1 q.1 stops last same.1 in
    (λ i. same.0 i ∷ later.0 i, later.1)

-- ---- the fields of a set

-- the addresses and the states were all read, where such fields are there
pub set-once : (a b text rest : List ℕ) (s t : List State) {fields : List ℕ} → PartInFront [] fields a text → StatesSoFar text s rest
    → NoStateInFront rest → PathFits b × AllByRecursion StateFits t → fields ≡ spaced numeral b ++ flat_map state_text t → (a ≡ b) × (s ≡ t) × (rest ≡ [])
set-once a b text rest s t front far last fits is =
    let first = part-once is front (part fits.0 (set-stops t) refl) in
    let later = states-once s t rest far.each fits.1 (far.none, far.ends) last (sym far.text_is ∙ first.1) in
    (first.0, later.0, later.1)

pub sets-once : (a b : List ℕ) (s t : List State) → PathFits a × AllByRecursion StateFits s → PathFits b × AllByRecursion StateFits t
    → spaced numeral a ++ flat_map state_text s ≡ spaced numeral b ++ flat_map state_text t → (a ≡ b) × (s ≡ t)
sets-once a b s t p q e =
    let text = sym (append-nil (flat_map state_text s)) in
    let all : StatesSoFar (flat_map state_text s) s [] = record { each = p.1; text_is = text; none = stops-nil.0; ends = stops-nil.1 } in
    let same = set-once a b (flat_map state_text s) [] s t (part p.0 (set-stops s) refl) all nil-no-state q e in
    (same.0, same.1)

-- no addresses are read
pub no-addresses : (fields b : List ℕ) (t : List State) → NoPartInFront [] fields → PathFits b
    → fields ≡ spaced numeral b ++ flat_map state_text t → ⊥
no-addresses fields b t none each is = none b (flat_map state_text t) (part each (set-stops t) is)

-- ---- no line feed

pub numbers_no_lf : (numbers : List ℕ) → NoLf (spaced numeral numbers)
numbers_no_lf numbers = spaced_no_lf numeral numeral_no_lf numbers

state_no_lf : (state : State) → NoLf (state_text state)
unfolding state_text
state_no_lf state = search (rules, NoLf-append, numbers_no_lf) depth 12

pub states_no_lf : (states : List State) → NoLf (flat_map state_text states)
states_no_lf [] = tt
states_no_lf (state ∷ states) = NoLf-append (state_text state) (flat_map state_text states) (state_no_lf state) (states_no_lf states)
