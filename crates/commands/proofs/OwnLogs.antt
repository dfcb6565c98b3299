-- The logs of a set, from its records in any order that keeps program order.
use Rattle.std.proofs.Common.{◌≡◌, ◌≢◌, ◌∙◌, ap, sym, subst, refl, ℕ, zero, suc, ◌+◌, ◌<◌, ◌≤◌, Bool, true, List, [], ◌∷◌, ◌++◌, Some, inl, inr, arith, filter, get_or, length, append-nil}
use Rattle.std.specs.Prelude.{◌==◌, ◌⊎◌, AllPairs, IsPermutation, map, slice_get}
use Rattle.std.specs.Global.{Vec}
use Rattle.std.specs.List.{range_with_len}
use Rattle.std.specs.List.Sorted.{IsNonDecreasingBy}
use Rattle.std.proofs.lemmas.Bool.{cases_lt, eqb-true, eq-eqb, false_from_ne_true}
use Rattle.std.proofs.lemmas.Bool.Decides.{nat_tests}
use Rattle.std.proofs.lemmas.List.{map-append}
use Rattle.std.proofs.lemmas.List.Elements.{filter-append}
use Rattle.std.proofs.lemmas.List.FromFn.{map-range_with_len_more}
use Rattle.std.proofs.lemmas.List.Kept.{AllPairs-filter}
use Rattle.std.proofs.lemmas.List.Sorted.{IsPermutation-sym}
use Rattle.std.proofs.lemmas.Map.Keys.{IsDistinct-from_apart, IsDistinct-IsPermutation, apart_from_distinct}
use Rattle.line_stamps.specs.Ordered.{In, EachPair}
use Rattle.line_stamps.proofs.Ordered.{AllPairs-from_each, In-filter, In-filtered}
use Rattle.log_record.specs.declared.record.Entry.{Entry}
use Rattle.log_record.specs.declared.record.Record.{Record}
use Rattle.log_record.specs.Entries.{core_entries, entries, entries_from, record_lists}
use Rattle.line_stamps.proofs.Ids.{same_id, same_id-refl, same_id-true}
use Rattle.log_record.proofs.EntryFacts.{Apart, apart}
use Rattle.mem_op.specs.Consistency.{is_same_id}
use Rattle.address_check.proofs.Pairs.{EachPair-from_all}
use Rattle.address_check.proofs.Sorting.{In-permutation, same_entry}
use Rattle.verdict.proofs.EntryLogs.{records_of_core}
use Rattle.commands.specs.inner.ReadLogs.{own_log}

abbrev of_core : ℕ → Entry → Bool
of_core core e = e.id.core == core

-- ---- a core's among those of a set

own_entries : (c i : ℕ) (log : List Record) → filter (of_core c) (core_entries c i log) ≡ core_entries c i log
own_entries c i [] = refl
own_entries c i (r ∷ log) =
    rw (eq-eqb c c refl) (ap (λ (es : List Entry). record { id = record { core = c; index = i }; logged = r } ∷ es) (own_entries c (suc i) log))

no_entries : (c d i : ℕ) (log : List Record) → (d ≡ c → ⊥) → filter (of_core c) (core_entries d i log) ≡ []
no_entries c d i [] other = refl
no_entries c d i (r ∷ log) other = rw (false_from_ne_true (d == c) (λ h. other (eqb-true _ _ h))) (no_entries c d (suc i) log other)

no_later : (c d : ℕ) (logs : List (List Record)) → c < d → filter (of_core c) (entries_from d logs) ≡ []
no_later c d [] below = refl
no_later c d (log ∷ logs) below =
    filter-append (of_core c) (core_entries d 0 log) (entries_from (suc d) logs) ∙ ap (λ (es : List Entry). es ++ filter (of_core c) (entries_from (suc d) logs)) (no_entries c d 0 log (λ same. absurd (omega arith)))
    ∙ no_later c (suc d) logs (omega arith)

own_from : (c d k : ℕ) (logs : List (List Record)) (log : List Record) → d + k ≡ c → slice_get logs k ≡ Some log → filter (of_core c) (entries_from d logs) ≡ core_entries c 0 log
own_from c d k [] log at there = cc
own_from c d zero (own ∷ logs) log at there =
    let same : own ≡ log = cc in
    let core : d ≡ c = omega arith in
    filter-append (of_core c) (core_entries d 0 own) (entries_from (suc d) logs)
    ∙ rw (core, same, no_later c (suc c) logs (omega arith), own_entries c 0 log) (append-nil (core_entries c 0 log))
own_from c d (suc k) (other ∷ logs) log at there =
    filter-append (of_core c) (core_entries d 0 other) (entries_from (suc d) logs)
    ∙ ap (λ (es : List Entry). es ++ filter (of_core c) (entries_from (suc d) logs)) (no_entries c d 0 other (λ same. absurd (omega arith)))
    ∙ own_from c (suc d) k logs log (omega arith) there

-- ---- in any order

-- program order within a core
abbrev Before : Entry → Entry → Type 0
Before a b = a.id.index < b.id.index

-- lists of the same entries that ascend are one
same_list : (xs ys : List Entry) → EachPair Before xs → EachPair Before ys → ((e : Entry) → In e xs → In e ys) → ((e : Entry) → In e ys → In e xs) → xs ≡ ys
same_list [] [] p q there back = refl
same_list [] (y ∷ ys) p q there back = absurd (back y (inl refl))
same_list (x ∷ xs) [] p q there back = absurd (there x (inl refl))
same_list (x ∷ xs) (y ∷ ys) p q there back =
    let first : x ≡ y = heads (there x (inl refl)) (back y (inl refl)) in
    let rest : xs ≡ ys = same_list xs ys p.1 q.1 (λ e h. behind e y ys (p.0 e h) first (there e (inr h))) (λ e h. behind e x xs (q.0 e h) (sym first) (back e (inr h))) in
    cc
  where
    heads : (y ≡ x) ⊎ In x ys → (x ≡ y) ⊎ In y xs → x ≡ y
    heads (inl same) h = sym same
    heads (inr h) (inl same) = same
    heads (inr h) (inr k) = let a : y.id.index < x.id.index = q.0 x h in let b : x.id.index < y.id.index = p.0 y k in absurd (omega arith)

    -- what comes after the other list's head isn't this list's
    behind : (e z : Entry) (zs : List Entry) {w : Entry} → w.id.index < e.id.index → w ≡ z → (z ≡ e) ⊎ In e zs → In e zs
    behind e z zs after same (inr h) = h
    behind e z zs {w} after same (inl is) = let at : w.id.index ≡ e.id.index = ap (λ (x : Entry). x.id.index) (same ∙ is) in absurd (omega arith)

later_index : (e : Entry) (c i j : ℕ) (log : List Record) → j < i → In e (core_entries c i log) → j < e.id.index
later_index e c i j [] low h = absurd h
later_index e c i j (r ∷ log) low (inl is) = let at : i ≡ e.id.index = ap (λ (x : Entry). x.id.index) is in omega arith
later_index e c i j (r ∷ log) low (inr h) = later_index e c (suc i) j log (omega arith) h

in_program_order : (c i : ℕ) (log : List Record) → EachPair Before (core_entries c i log)
in_program_order c i [] = tt
in_program_order c i (r ∷ log) = (λ e h. later_index e c (suc i) i log (omega arith) h, in_program_order c (suc i) log)

-- neither before the other's index, and not the other
abbrev Unswapped : Entry → Entry → Type 0
Unswapped a b = (a.id.index ≤ b.id.index) × (a.id ≢ b.id)

ascends : (core : ℕ) (es : List Entry) → EachPair Unswapped es → ((e : Entry) → In e es → e.id.core ≡ core) → EachPair Before es
ascends core [] pairs of = tt
ascends core (x ∷ es) pairs of = (λ y h. go y (pairs.0 y h) (of x (inl refl) ∙ sym (of y (inr h))), ascends core es pairs.1 (λ y h. of y (inr h)))
  where
    go : (y : Entry) → Unswapped x y → x.id.core ≡ y.id.core → x.id.index < y.id.index
    go y apart same = elim (cases_lt x.id.index y.id.index) [
      | inl below ↦ below
      | inr above ↦ absurd (apart.1 (same_id x.id y.id same (omega (arith, above, apart.0))))
    ]

-- a list whose elements a function gives of their places
each : {X : Type 0} (f : ℕ → X) (a : ℕ) (xs : List X) → ((k : ℕ) (x : X) → slice_get xs k ≡ Some x → f (a + k) ≡ x) → map f (range_with_len a (length xs)) ≡ xs
each f a [] at = refl
each f a (x ∷ xs) at =
    let here : f a ≡ x = ap f (omega arith) ∙ at 0 x refl in
    let rest : map f (range_with_len (a + 1) (length xs)) ≡ xs = each f (a + 1) xs (λ k y there. ap f (omega arith) ∙ at (suc k) y there) in
    cc

module _ (logs : List (List Record)) (es : List Entry) (same : IsPermutation (entries logs) es) (up : IsNonDecreasingBy (λ (e : Entry). e.id.index) es) where
  unswapped : AllPairs Unswapped es
  unswapped i j d before there =
      let ids = AllPairs-from_each Apart (entries logs) (apart logs) in
      let apart_all = IsDistinct-from_apart same_entry (entries logs) (λ i j d p q. false_from_ne_true _ (λ t. ids i j d p q (same_id-true _ _ t))) in
      let apart_es = IsDistinct-IsPermutation same_entry (λ a b. grind (arith, nat_tests)) (entries logs) es same apart_all in
      let differ = apart_from_distinct same_entry es i j d apart_es before there in
      (up i j d (omega arith) there, λ is. (let one : same_entry (get_or es i d) (get_or es j d) ≡ true = subst (λ id. is_same_id (get_or es i d).id id ≡ true) is (same_id-refl (get_or es i d).id) in cc))

  own_is : (core : ℕ) (log : List Record) → slice_get logs core ≡ Some log → filter (of_core core) es ≡ core_entries core 0 log
  own_is core log there =
      let at : filter (of_core core) (entries logs) ≡ core_entries core 0 log = own_from core 0 core logs log (omega arith) there in
      let inside : (e : Entry) → In e (filter (of_core core) es) → In e (filter (of_core core) (entries logs)) =
      λ e h. (let t = In-filter (of_core core) es e h in In-filtered (of_core core) (entries logs) e (In-permutation (entries logs) es same e t.0) t.1) in
      let outside : (e : Entry) → In e (filter (of_core core) (entries logs)) → In e (filter (of_core core) es) =
      λ e h. (let t = In-filter (of_core core) (entries logs) e h in In-filtered (of_core core) es e (In-permutation es (entries logs) (IsPermutation-sym (entries logs) es same) e t.0) t.1) in
      let up_own : EachPair Before (filter (of_core core) es) =
      ascends core (filter (of_core core) es) (EachPair-from_all Unswapped _ (AllPairs-filter Unswapped (of_core core) es unswapped)) (λ e h. eqb-true _ _ (In-filter (of_core core) es e h).1) in
      same_list (filter (of_core core) es) (core_entries core 0 log) up_own (in_program_order core 0 log)
      (λ e h. subst (In e) at (inside e h)) (λ e h. outside e (subst (In e) (sym at) h))

  log_is : (core : ℕ) (log : List Record) → slice_get logs core ≡ Some log → own_log es core ≡ log
  log_is core log there = ap (λ (own : List Entry). map (λ e. e.logged) own) (own_is core log there) ∙ records_of_core core 0 log

  logs_are : map (own_log es) (range_with_len 0 (length logs)) ≡ logs
  logs_are = each (own_log es) 0 logs (λ k log there. ap (own_log es) (omega arith) ∙ log_is k log there)

-- so they are read again from an index
pub logs_again : (logs : List (List Record)) (es given : List Entry) (cores : ℕ) → IsPermutation (entries logs) es → IsNonDecreasingBy (λ (e : Entry). e.id.index) es → given ≡ es → length logs ≡ cores
    → map (own_log given) (range_with_len 0 cores) ≡ logs
logs_again logs es given cores same up is many =
    ap (λ (xs : List Entry). map (own_log xs) (range_with_len 0 cores)) is ∙ ap (λ (n : ℕ). map (own_log es) (range_with_len 0 n)) (sym many) ∙ logs_are logs es same up

-- the next core's
pub one_log_more : (es : List Entry) (vs : List (Vec Record)) (v : Vec Record) (core : ℕ) → record_lists vs ≡ map (own_log es) (range_with_len 0 core) → v.items ≡ own_log es core
    → record_lists (vs ++ v ∷ []) ≡ map (own_log es) (range_with_len 0 (core + 1))
one_log_more es vs v core so_far here =
    map-append (λ (log : Vec Record). log.items) vs (v ∷ []) ∙ ap (λ (ls : List (List Record)). ls ++ v.items ∷ []) so_far
    ∙ ap (λ (l : List Record). map (own_log es) (range_with_len 0 core) ++ l ∷ []) here ∙ sym (map-range_with_len_more (own_log es) 0 core core (omega arith))
