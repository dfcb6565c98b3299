-- What an item of a log tells of the record there.
use Rattle.std.specs.Prelude.{◌≡◌, ◌<◌, ◌≤◌, ◌-◌, ◌+◌, ℕ, zero, suc, false, List, Some, slice_get, slice_index_or, option_map, length, refl}
use Rattle.std.proofs.Common.{◌∙◌, ap, arith, subst, inl, inr}
use Rattle.std.proofs.lemmas.Bool.{cases_lt}
use Rattle.std.proofs.lemmas.Option.{slice_get_read, slice_get_past}
use Rattle.std.specs.Ordering.{is_lt}
use Rattle.log_record.specs.declared.record.Record.{Record}
use Rattle.core_check.specs.CoreOrder.{falls, is_core_fault, stamp_cmp}
use Rattle.core_check.proofs.OrderFaultFacts.{nothing_falls_to_none}

-- the record of an item that was read
pub record_read : {A : Type 0} (record_of : A → Record) (records_of : List A → List Record) → ((items : List A) (i : ℕ) → slice_get (records_of items) i ≡ option_map record_of (slice_get items i))
    → (items : List A) (i : ℕ) (x : A) → i < length items → x ≡ slice_index_or items i x → slice_get (records_of items) i ≡ Some (record_of x)
record_read record_of records_of each items i x inside is =
    each items i ∙ ap (option_map record_of) (slice_get_read items (length items) i x (λ i. length items) inside is)

-- whether a log falls between two records
pub fall_at : (log : List Record) (i : ℕ) (a b : Record) → 1 ≤ i → slice_get log (i - 1) ≡ Some a → slice_get log i ≡ Some b → is_core_fault log i ≡ is_lt (stamp_cmp b a)
fall_at log zero a b h p q = absurd (omega arith)
fall_at log (suc i) a b h p q =
    let before : suc i - 1 ≡ i = omega arith in
    ap (λ o. falls o (slice_get log (suc i))) (subst (λ k. slice_get log k ≡ Some a) before p) ∙ ap (falls (Some a)) q

-- no index from the end of a log on is a core fault
pub none_after : (log : List Record) (n : ℕ) → length log ≤ n → ((k : ℕ) → k < n → is_core_fault log k ≡ false) → (k : ℕ) → is_core_fault log k ≡ false
none_after log n all before k = elim (cases_lt k n) [
  | inl below ↦ before k below
  | inr past ↦ outside k (omega arith)
]
  where
    outside : (k : ℕ) → length log ≤ k → is_core_fault log k ≡ false
    outside zero h = refl
    outside (suc i) h = ap (falls (slice_get log i)) (slice_get_past log (suc i) h) ∙ nothing_falls_to_none (slice_get log i)

-- one index more that isn't one
pub one_more : (log : List Record) (n : ℕ) → is_core_fault log n ≡ false → ((k : ℕ) → k < n → is_core_fault log k ≡ false) → (k : ℕ) → k < n + 1 → is_core_fault log k ≡ false
one_more log n here before k l = elim (cases_lt k n) [
  | inl below ↦ before k below
  | inr at ↦ subst (λ j. is_core_fault log j ≡ false) (omega arith) here
]
