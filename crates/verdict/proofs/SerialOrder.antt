-- The ids of a set by key: each operation's id once, and nothing else.
use Rattle.std.specs.Prelude.{◌≡◌, true, List, refl, Option, Some, None, is_some, count_by, if◌then◌else◌}
use Rattle.std.proofs.Common.{sym, ◌∙◌, ap, arith}
use Rattle.std.specs.Option.{option_map}
use Rattle.std.specs.declared.cmp.Ordering.TheVariants.{Equal}
use Rattle.std.specs.Ordering.{is_lt}
use Rattle.std.proofs.lemmas.Bool.{false_from_ne_true}
use Rattle.std.proofs.lemmas.Bool.Decides.{nat_tests}
use Rattle.mem_op.specs.declared.id.OpId.{OpId}
use Rattle.mem_op.specs.Consistency.{is_same_id, IsSerialOrder}
use Rattle.line_stamps.specs.Ordered.{In, Ascends}
use Rattle.line_stamps.proofs.Ordered.{In-map, In-mapped, In-sorted, In-from_sorted, EachPair-map, Ascends-sorted}
use Rattle.log_record.specs.declared.record.Record.{Record}
use Rattle.log_record.specs.declared.record.Entry.{Entry}
use Rattle.log_record.specs.Entries.{entry_cmp, operation_of, operations_of, entries, record_at}
use Rattle.line_stamps.proofs.Ids.{same_id, same_id-true, same_id-refl, count_none, count_one}
use Rattle.log_record.proofs.EntryFacts.{at, record_of_entry, entry_of_record, same_record, Apart, apart, operation_at-operations_of}
use Rattle.address_check.proofs.Pairs.{EachPair-weaken}
use Rattle.address_check.proofs.Totals.{entry_total}
use Rattle.verdict.specs.ByKey.{by_key, ids_by_key}

-- entries that tie have one id
pub tied_id : (a b : Entry) → entry_cmp a b ≡ Equal → a.id ≡ b.id
tied_id a b h = same_id a.id b.id (grind (arith, nat_tests)) (grind (arith, nat_tests))

pub by_key-ascends : (logs : List (List Record)) → Ascends entry_cmp (by_key logs)
by_key-ascends logs =
    Ascends-sorted entry_cmp entry_total (entries logs)
    (EachPair-weaken Apart (λ a b. entry_cmp a b ≡ Equal → ⊥) (entries logs) (λ a b apart_ids tied. apart_ids (tied_id a b tied)) (apart logs))

pub in_set_by_key : (logs : List (List Record)) (e : Entry) → In e (by_key logs) → In e (entries logs)
in_set_by_key logs e h = In-sorted entry_cmp e (entries logs) h

-- where one of two entries of the set comes before the other, their ids differ
pub differ : (logs : List (List Record)) (a b : Entry) → In a (entries logs) → In b (entries logs) → is_lt (entry_cmp a b) ≡ true → a.id ≡ b.id → ⊥
differ logs a b p q before same =
    let logged : a.logged ≡ b.logged = same_record logs a b p q same in
    grind (arith, nat_tests)

by_key-serial_at : (logs : List (List Record)) (id : OpId) (o : Option Record) → record_at logs id ≡ o → count_by (is_same_id id) (ids_by_key logs) ≡ (if is_some (option_map operation_of o) then 1 else 0)
by_key-serial_at logs id None h = count_none (is_same_id id) (ids_by_key logs) (λ x q. false_from_ne_true (is_same_id id x) (λ t.
    let m = In-map (λ (e : Entry). e.id) x (by_key logs) q in
    let same = same_id-true id x t in
    let found = record_of_entry logs m.0 (in_set_by_key logs m.0 m.1) in
    cc))
by_key-serial_at logs id (Some r) h =
    count_one (is_same_id id) (ids_by_key logs) id
    (EachPair-map (λ (e : Entry). e.id) (λ a b. is_same_id id a ≡ true → is_same_id id b ≡ true → ⊥) (λ x y. is_lt (entry_cmp x y) ≡ true) (by_key logs)
    (λ a b p q l s t. differ logs a b (in_set_by_key logs a p) (in_set_by_key logs b q) l (sym (same_id-true id a.id s) ∙ same_id-true id b.id t))
    (by_key-ascends logs))
    (In-mapped (λ (e : Entry). e.id) (at id r) (by_key logs) (In-from_sorted entry_cmp (at id r) (entries logs) (entry_of_record logs id r h)))
    (same_id-refl id)

pub by_key-serial : (logs : List (List Record)) → IsSerialOrder (operations_of logs) (ids_by_key logs)
by_key-serial logs id =
    by_key-serial_at logs id (record_at logs id) refl ∙ ap (λ o. if is_some o then 1 else 0) (sym (operation_at-operations_of logs id))
