-- The ids of a set by key keep program order, where no core's (ts, rank) falls.
use Rattle.std.specs.Prelude.{◌≡◌, ℕ, zero, suc, ◌+◌, ◌<◌, ◌≤◌, Bool, true, false, List, [], unwrap_or, Some, slice_get}
use Rattle.std.proofs.Common.{◌-◌, inl, inr, arith, get_or}
use Rattle.std.specs.Ordering.{is_lt}
use Rattle.std.proofs.lemmas.Bool.{cases_lt}
use Rattle.std.proofs.lemmas.Bool.Decides.{nat_tests}
use Rattle.std.proofs.lemmas.Option.{slice_get_within, slice_get-get_or}
use Rattle.mem_op.specs.declared.id.OpId.{OpId}
use Rattle.mem_op.specs.Consistency.{KeepsProgramOrder}
use Rattle.line_stamps.specs.Ordered.{In}
use Rattle.line_stamps.proofs.Ordered.{AllPairs-from_each, EachPair-map}
use Rattle.log_record.specs.declared.record.Record.{Record}
use Rattle.log_record.specs.declared.record.Entry.{Entry}
use Rattle.log_record.specs.Entries.{entry_cmp, entries}
use Rattle.log_record.proofs.EntryFacts.{at, record_of_entry, entry_of_record}
use Rattle.core_check.specs.CoreOrder.{stamp_cmp}
use Rattle.core_check.specs.CoreFaults.{breaks_core_order}
use Rattle.verdict.specs.ByKey.{by_key, ids_by_key}
use Rattle.verdict.proofs.SerialOrder.{by_key-ascends, in_set_by_key}

-- (ts, rank) falls along no core
abbrev pub NoCoreFault : List (List Record) → Type 0
NoCoreFault logs = (e : Entry) → In e (entries logs) → breaks_core_order logs e ≡ false

abbrev is_before : Record → Record → Bool
is_before a b = is_lt (stamp_cmp a b)

never_falls : (logs : List (List Record)) → NoCoreFault logs → (c i k : ℕ) (log : List Record) (r s : Record) → slice_get logs c ≡ Some log → slice_get log i ≡ Some r → slice_get log (i + k) ≡ Some s → is_before s r ≡ false
never_falls logs none c i zero log r s place at_i at_k = grind (arith, nat_tests)
never_falls logs none c i (suc k) log r s place at_i at_k =
    let within = slice_get_within log (i + suc k) s at_k in
    let between : slice_get log (i + k) ≡ Some (get_or log (i + k) r) = slice_get-get_or log (i + k) r (omega arith) in
    let so_far = never_falls logs none c i k log r (get_or log (i + k) r) place at_i between in
    let id : OpId = record { core = c; index = suc (i + k) } in
    let level = none (at id s) (entry_of_record logs id s (grind arith)) in
    grind (arith, nat_tests)

-- of two entries of a core the one of lesser key has the lesser index
pub keeps_order : (logs : List (List Record)) → NoCoreFault logs → (a b : Entry) → In a (entries logs) → In b (entries logs) → is_lt (entry_cmp a b) ≡ true → a.id.core ≡ b.id.core → a.id.index < b.id.index
keeps_order logs none a b p q before one_core = elim (cases_lt a.id.index b.id.index) [ inl l ↦ l | inr l ↦ above l ]
  where
    above : b.id.index ≤ a.id.index → a.id.index < b.id.index
    above l =
        let at_a = record_of_entry logs a p in
        let at_b = record_of_entry logs b q in
        let log : List Record = unwrap_or (slice_get logs b.id.core) [] in
        let not_less = never_falls logs none b.id.core b.id.index (a.id.index - b.id.index) log b.logged a.logged (grind arith) (grind arith) (grind arith) in
        grind (arith, nat_tests)

pub by_key-program : (logs : List (List Record)) → NoCoreFault logs → KeepsProgramOrder (ids_by_key logs)
by_key-program logs none =
    AllPairs-from_each (λ a b. a.core ≡ b.core → a.index < b.index) (ids_by_key logs)
    (EachPair-map (λ (e : Entry). e.id) (λ a b. a.core ≡ b.core → a.index < b.index) (λ x y. is_lt (entry_cmp x y) ≡ true) (by_key logs)
    (λ a b p q l e. keeps_order logs none a b (in_set_by_key logs a p) (in_set_by_key logs b q) l e) (by_key-ascends logs))
