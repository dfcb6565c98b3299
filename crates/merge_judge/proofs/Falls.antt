-- The first index at which a log falls, as it grows.
use Rattle.std.specs.Prelude.{◌≡◌, ℕ, zero, suc, ◌+◌, ◌<◌, ◌≤◌, Bool, true, false, List, [], ◌∷◌, ◌++◌, refl, Option, Some, None, if◌then◌else◌, length, slice_get}
use Rattle.std.proofs.Common.{sym, ◌∙◌, ap, subst, inl, inr, arith, append-nil, length-append}
use Rattle.std.proofs.lemmas.Bool.{cases_lt, cases_eq}
use Rattle.std.proofs.lemmas.Option.{slice_get_past}
use Rattle.log_record.specs.declared.record.Record.{Record}
use Rattle.core_program.specs.Least.{IsLeastWhere}
use Rattle.core_check.specs.CoreOrder.{falls, is_core_fault}
use Rattle.core_check.proofs.OrderFaultFacts.{nothing_falls_to_none}
use Rattle.merge_judge.specs.inner.Lanes.{first_to_fall, front_list}
use Rattle.merge_judge.proofs.Places.{get_last, get_left}

-- before what comes behind nothing changes
pub fall_left : (xs ys : List Record) (i : ℕ) → i < length xs → is_core_fault (xs ++ ys) i ≡ is_core_fault xs i
fall_left xs ys zero l = refl
fall_left xs ys (suc i) l = (λ j. falls (get_left xs ys i (omega arith) j) (get_left xs ys (suc i) l j))

pub fall_past : (xs : List Record) (i : ℕ) → length xs ≤ i → is_core_fault xs i ≡ false
fall_past xs zero l = refl
fall_past xs (suc i) l = ap (falls (slice_get xs i)) (slice_get_past xs (suc i) l) ∙ nothing_falls_to_none (slice_get xs i)

-- the first records of a log that doesn't fall don't either
pub never_front : (xs ys : List Record) → ((i : ℕ) → is_core_fault (xs ++ ys) i ≡ false) → (i : ℕ) → is_core_fault xs i ≡ false
never_front xs ys h i = elim (cases_lt i (length xs)) [ inl l ↦ sym (fall_left xs ys i l) ∙ h i | inr past ↦ fall_past xs i past ]

-- at the new record
fall_here : (xs : List Record) (e r : Record) (n : ℕ) → n ≡ length (xs ++ e ∷ []) → is_core_fault ((xs ++ e ∷ []) ++ r ∷ []) n ≡ falls (Some e) (Some r)
fall_here xs e r n is =
    ap (is_core_fault ((xs ++ e ∷ []) ++ r ∷ [])) (is ∙ long)
    ∙ (λ j. falls ((get_left (xs ++ e ∷ []) (r ∷ []) (length xs) (omega (arith, long)) ∙ get_last xs e) j) ((ap (slice_get ((xs ++ e ∷ []) ++ r ∷ [])) (sym long) ∙ get_last (xs ++ e ∷ []) r) j))
  where
    long : length (xs ++ e ∷ []) ≡ suc (length xs)
    long = length-append xs (e ∷ []) ∙ (let q : length xs + 1 ≡ suc (length xs) = omega arith in q)

abbrev After : List Record → Record → Record → List Record
After xs e r = (xs ++ e ∷ []) ++ r ∷ []

-- a first fall stays
fall_stays : (xs ys : List Record) (i : ℕ) → IsLeastWhere (is_core_fault xs) (Some i) → IsLeastWhere (is_core_fault (xs ++ ys)) (Some i)
fall_stays xs ys i h = elim (cases_lt i (length xs)) [
  | inl l ↦ (fall_left xs ys i l ∙ h.0, λ j m. fall_left xs ys j (omega arith) ∙ h.1 j m)
  | inr past ↦ absurd (let a : is_core_fault xs i ≡ true = h.0 in let b = fall_past xs i past in cc)
]

-- the new record is the first that falls, or none falls
fall_next : (xs : List Record) (e r : Record) (n : ℕ) → n ≡ length (xs ++ e ∷ []) → IsLeastWhere (is_core_fault (xs ++ e ∷ [])) None
    → (b : Bool) → falls (Some e) (Some r) ≡ b → IsLeastWhere (is_core_fault (After xs e r)) (if b then Some n else None)
fall_next xs e r n is h true f = (fall_here xs e r n is ∙ f, λ j m. fall_left (xs ++ e ∷ []) (r ∷ []) j (omega (arith, is)) ∙ h j)
fall_next xs e r n is h false f = λ i. elim (cases_lt i (length (xs ++ e ∷ []))) [
  | inl l ↦ fall_left (xs ++ e ∷ []) (r ∷ []) i l ∙ h i
  | inr past ↦ elim (cases_eq i (length (xs ++ e ∷ []))) [
    | inl here ↦ fall_here xs e r i here ∙ f
    | inr other ↦ fall_past (After xs e r) i (omega (arith, length-append (xs ++ e ∷ []) (r ∷ [])))
  ]
]

-- the first fall with one more record, or at the end of the log
pub fall_more : (xs : List Record) (e : Record) (n : ℕ) (known : Option ℕ) (next : Option Record) → n ≡ length (xs ++ e ∷ []) → IsLeastWhere (is_core_fault (xs ++ e ∷ [])) known
    → IsLeastWhere (is_core_fault ((xs ++ e ∷ []) ++ front_list next)) (first_to_fall known n (Some e) next)
fall_more xs e n None None is h = subst (λ ys. IsLeastWhere (is_core_fault ys) None) (sym (append-nil (xs ++ e ∷ []))) h
fall_more xs e n None (Some r) is h = fall_next xs e r n is h (falls (Some e) (Some r)) refl
fall_more xs e n (Some i) next is h = fall_stays (xs ++ e ∷ []) (front_list next) i h

-- where no record falls, the last doesn't
pub fall_here_is : (xs : List Record) (e r : Record) (o : Option ℕ) → IsLeastWhere (is_core_fault (After xs e r)) o → o ≡ None → falls (Some e) (Some r) ≡ false
fall_here_is xs e r None h q = sym (fall_here xs e r (length (xs ++ e ∷ [])) refl) ∙ h (length (xs ++ e ∷ []))
fall_here_is xs e r (Some i) h q = absurd cc
