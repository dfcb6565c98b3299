-- What stands among the faults of core order of a set.
use Rattle.std.specs.Prelude.{◌≡◌, ℕ, zero, suc, true, false, List, Option, Some, None, slice_get, option_and_then, filter, refl}
use Rattle.std.specs.Option.{option_map_or}
use Rattle.std.proofs.Common.{sym, ◌∙◌, ap, subst}
use Rattle.mem_op.specs.declared.id.OpId.{OpId}
use Rattle.line_stamps.specs.Ordered.{In}
use Rattle.line_stamps.proofs.Ordered.{In-map, In-mapped, In-filter, In-filtered}
use Rattle.log_record.specs.declared.record.Record.{Record}
use Rattle.log_record.specs.declared.record.Entry.{Entry}
use Rattle.log_record.specs.Entries.{entries, record_at}
use Rattle.log_record.proofs.EntryFacts.{at, entry_of_record}
use Rattle.core_check.specs.declared.fault.RuleFault.{RuleFault}
use Rattle.core_check.specs.CoreOrder.{falls, is_core_fault}
use Rattle.core_check.specs.CoreFaults.{breaks_core_order, order_fault, order_faults}

pub nothing_falls_to_none : (earlier : Option Record) → falls earlier None ≡ false
nothing_falls_to_none None = refl
nothing_falls_to_none (Some r) = refl

-- there is a record at a core fault
pub record_at_fault : (log : List Record) (i : ℕ) → is_core_fault log i ≡ true → (r : Record) × (slice_get log i ≡ Some r)
record_at_fault log zero h = cc
record_at_fault log (suc i) h = go (slice_get log (suc i)) refl h
  where
    go : (later : Option Record) → slice_get log (suc i) ≡ later → falls (slice_get log i) later ≡ true → (r : Record) × (slice_get log (suc i) ≡ Some r)
    go None e t = (let f = nothing_falls_to_none (slice_get log i) in cc)
    go (Some r) e t = (r, e)

-- a core fault of one log is one of the set's
pub fault_of_log : (logs : List (List Record)) (id : OpId) (log : List Record) → slice_get logs id.core ≡ Some log → is_core_fault log id.index ≡ true → In (order_fault id) (order_faults logs)
fault_of_log logs id log place falls_here =
    let found = record_at_fault log id.index falls_here in
    let stands : record_at logs id ≡ Some found.0 = ap (option_and_then (λ l. slice_get l id.index)) place ∙ found.1 in
    let breaks : breaks_core_order logs (at id found.0) ≡ true = ap (λ o. option_map_or (λ l. is_core_fault l id.index) o false) place ∙ falls_here in
    In-mapped (λ (e : Entry). order_fault e.id) (at id found.0) (filter (breaks_core_order logs) (entries logs))
    (In-filtered (breaks_core_order logs) (entries logs) (at id found.0) (entry_of_record logs id found.0 stands) breaks)

-- a fault of the set, with the log that it stands in
pub record FaultIn (logs : List (List Record)) (f : RuleFault) : Type 0 where
  pub log : List Record
  pub place : slice_get logs f.id.core ≡ Some log
  pub falls_there : is_core_fault log f.id.index ≡ true
  pub of_order : order_fault f.id ≡ f

-- each of the set's faults is a core fault of one log
pub fault_in_log : (logs : List (List Record)) (f : RuleFault) → In f (order_faults logs) → FaultIn logs f
fault_in_log logs f h = go (In-map (λ (e : Entry). order_fault e.id) f (filter (breaks_core_order logs) (entries logs)) h)
  where
    in_log : (o : Option (List Record)) → slice_get logs f.id.core ≡ o → option_map_or (λ l. is_core_fault l f.id.index) o false ≡ true → order_fault f.id ≡ f → FaultIn logs f
    in_log None e t r = cc
    in_log (Some log) e t r = record { log = log; place = e; falls_there = t; of_order = r }

    go : (e : Entry) × In e (filter (breaks_core_order logs) (entries logs)) × (order_fault e.id ≡ f) → FaultIn logs f
    go t =
        let breaks : breaks_core_order logs t.0 ≡ true = (In-filter (breaks_core_order logs) (entries logs) t.0 t.1).1 in
        let same : t.0.id ≡ f.id = ap (λ (g : RuleFault). g.id) t.2 in
        in_log (slice_get logs f.id.core) refl
        (subst (λ (id : OpId). option_map_or (λ l. is_core_fault l id.index) (slice_get logs id.core) false ≡ true) same breaks)
        (ap order_fault (sym same) ∙ t.2)

-- a core fault of the set at a place is one of the log there
pub fault_at_place : (logs : List (List Record)) (id : OpId) (log : List Record) → slice_get logs id.core ≡ Some log → In (order_fault id) (order_faults logs) → is_core_fault log id.index ≡ true
fault_at_place logs id log place h =
    let found = fault_in_log logs (order_fault id) h in
    let same : Some found.log ≡ Some log = sym found.place ∙ place in
    let one : found.log ≡ log = cc in
    subst (λ (l : List Record). is_core_fault l id.index ≡ true) one found.falls_there
