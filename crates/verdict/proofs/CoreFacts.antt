-- The core faults of a set, core by core.
use Rattle.std.specs.Prelude.{◌≡◌, ◌<◌, ◌≤◌, ◌+◌, ℕ, Bool, false, ◌==◌, List, [], ◌∷◌, ◌++◌, refl, Option, Some, None, option_map, slice_get, map, length, take}
use Rattle.std.specs.List.{flat_map}
use Rattle.std.specs.declared.cmp.Ordering.{Ordering}
use Rattle.std.specs.Ordering.{is_lt}
use Rattle.std.proofs.Common.{sym, ◌∙◌, ap, subst, inl, inr, arith, get_or}
use Rattle.std.proofs.lemmas.Bool.{eqb-true, eq-eqb, cases_lt}
use Rattle.std.proofs.lemmas.Bool.Decides.{nat_tests}
use Rattle.std.proofs.lemmas.List.{append-nil, take_more}
use Rattle.std.proofs.lemmas.List.Elements.{filter-append}
use Rattle.std.proofs.lemmas.Option.{slice_get_within}
use Rattle.line_stamps.specs.Least.{least_of, lesser}
use Rattle.line_stamps.specs.Ordered.{In, IsLeastIn}
use Rattle.line_stamps.proofs.Joined.{least_of-append}
use Rattle.line_stamps.proofs.Ordered.{In-append, In-append_left, In-append_right, In-filter, In-filtered, In-flat_map, flat_map-In, least_is, one_least, same_least}
use Rattle.log_record.specs.declared.record.Record.{Record}
use Rattle.log_record.specs.Entries.{operation_of}
use Rattle.core_program.specs.declared.instruction.Instruction.{Instruction}
use Rattle.core_program.specs.Conforming.{program_fault}
use Rattle.core_program.specs.Least.{IsLeastWhere}
use Rattle.core_check.specs.contracts.fault.RuleFaultOrd.TheImpl.{ghosts}
use Rattle.core_check.specs.declared.fault.RuleFault.{RuleFault}
use Rattle.core_check.specs.CoreFaults.{order_fault, order_faults, program_fault_at, program_faults}
use Rattle.core_check.specs.CoreOrder.{is_core_fault}
use Rattle.core_check.specs.FaultOrder.{core_fault_cmp}
use Rattle.core_check.proofs.FaultFacts.{core_fault_total, derived_cmp, tied_core_faults}
use Rattle.core_check.proofs.OrderFaultFacts.{fault_of_log, fault_in_log}
use Rattle.core_check.proofs.ProgramFaultFacts.{program_fault_in_log, program_faults-of_core}
use Rattle.verdict.specs.CoreFaultsOf.{core_faults, faults_by_programs, faults_of_core, least_of_core, least_of_cores}
use Rattle.verdict.specs.CoreLaw.{least_of_cores-joined}

abbrev is_of : ℕ → RuleFault → Bool
is_of core f = f.id.core == core

-- what is least among faults is the least of them
is_the_least : (faults : List RuleFault) (o : Option RuleFault) → IsLeastIn core_fault_cmp faults o → o ≡ least_of core_fault_cmp faults
is_the_least faults o h =
    one_least core_fault_cmp core_fault_total faults faults o (least_of core_fault_cmp faults)
    (λ a b p q tied. tied_core_faults a b tied) (λ f p. p) (λ f p. p) h (least_is core_fault_cmp core_fault_total faults)

none_of_core : (faults : List RuleFault) (core : ℕ) → ((f : RuleFault) → In f faults → f.id.core ≡ core → ⊥) → None ≡ least_of_core faults core
none_of_core faults core none =
    is_the_least (faults_of_core faults core) None (λ f p. (let parts = In-filter (is_of core) faults f p in none f parts.0 (eqb-true f.id.core core parts.1)))

-- ---- where the log of a core falls

pub no_order_fault : (logs : List (List Record)) (core : ℕ) → None ≡ slice_get logs core → None ≡ least_of_core (order_faults logs) core
no_order_fault logs core none = none_of_core (order_faults logs) core (λ f p here. (let found = fault_in_log logs f p in cc))

pub never_falls : (logs : List (List Record)) (core : ℕ) (log : List Record) → Some log ≡ slice_get logs core → IsLeastWhere (is_core_fault log) None → None ≡ least_of_core (order_faults logs) core
never_falls logs core log place h = none_of_core (order_faults logs) core (λ f p here. (let found = fault_in_log logs f p in let isnt = h f.id.index in cc))

pub falls_first : (logs : List (List Record)) (core index : ℕ) (log : List Record) → Some log ≡ slice_get logs core → IsLeastWhere (is_core_fault log) (Some index) → Some (order_fault (record { core = core; index = index })) ≡ least_of_core (order_faults logs) core
falls_first logs core index log place h = is_the_least (faults_of_core (order_faults logs) core) (Some fault) (here, above)
  where
    fault : RuleFault
    fault = order_fault (record { core = core; index = index })

    here : In fault (faults_of_core (order_faults logs) core)
    here = In-filtered (is_of core) (order_faults logs) fault (fault_of_log logs fault.id log (sym place) h.0) (eq-eqb core core refl)

    above : (f : RuleFault) → In f (faults_of_core (order_faults logs) core) → is_lt (core_fault_cmp f fault) ≡ false
    above f p =
        let parts = In-filter (is_of core) (order_faults logs) f p in
        let found = fault_in_log logs f parts.0 in
        let one_core : f.id.core ≡ core = eqb-true f.id.core core parts.1 in
        let of_order : order_fault f.id ≡ f = found.of_order in
        let lowest : index ≤ f.id.index = elim (cases_lt f.id.index index) [ inl l ↦ absurd (let isnt = h.1 f.id.index l in cc) | inr l ↦ l ] in
        grind (arith, nat_tests)

-- ---- where it leaves its program

pub no_program : (programs : List (List Instruction)) (logs : List (List Record)) (core : ℕ) → None ≡ slice_get programs core → None ≡ least_of_core (program_faults programs logs) core
no_program programs logs core none = none_of_core (program_faults programs logs) core (λ f p here. (let found = program_fault_in_log programs logs f p in cc))

pub no_log : (programs : List (List Instruction)) (logs : List (List Record)) (core : ℕ) → None ≡ slice_get logs core → None ≡ least_of_core (program_faults programs logs) core
no_log programs logs core none = none_of_core (program_faults programs logs) core (λ f p here. (let found = program_fault_in_log programs logs f p in cc))

abbrev pub fault_of_program : ℕ → ℕ → RuleFault
fault_of_program core index = program_fault_at (record { core = core; index = index })

pub leaves_program : (programs : List (List Instruction)) (logs : List (List Record)) (core : ℕ) (program : List Instruction) (log : List Record) → Some program ≡ slice_get programs core → Some log ≡ slice_get logs core
    → option_map (fault_of_program core) (program_fault program (map operation_of log)) ≡ least_of_core (program_faults programs logs) core
leaves_program programs logs core program log there logged =
    let found = program_faults-of_core programs logs core program log (sym there) (sym logged) in
    grind arith

-- ---- both

-- the least core fault of a core is the lesser of its two
pub lesser_of_core : (programs : Option (List (List Instruction))) (logs : List (List Record)) (core : ℕ) → lesser ghosts.cmp (least_of_core (order_faults logs) core) (least_of_core (faults_by_programs programs logs) core) ≡ least_of_core (core_faults programs logs) core
lesser_of_core programs logs core =
    subst (λ (R : RuleFault → RuleFault → Ordering). lesser R (least_of_core (order_faults logs) core) (least_of_core (faults_by_programs programs logs) core) ≡ least_of_core (core_faults programs logs) core) derived_cmp
    (sym (ap (least_of core_fault_cmp) (filter-append (is_of core) (order_faults logs) (faults_by_programs programs logs))
    ∙ least_of-append core_fault_cmp core_fault_total (faults_of_core (order_faults logs) core) (faults_of_core (faults_by_programs programs logs) core)))

-- each fault is of a core that has a log
pub has_log : (programs : Option (List (List Instruction))) (logs : List (List Record)) (f : RuleFault) → In f (core_faults programs logs) → f.id.core < length logs
has_log programs logs f h = elim (In-append f (order_faults logs) (faults_by_programs programs logs) h) [
  | inl p ↦ (let found = fault_in_log logs f p in slice_get_within logs f.id.core found.log found.place)
  | inr p ↦ by_program programs p
]
  where
    by_program : (ps : Option (List (List Instruction))) → In f (faults_by_programs ps logs) → f.id.core < length logs
    by_program None p = absurd p
    by_program (Some ps) p = let found = program_fault_in_log ps logs f p in slice_get_within logs f.id.core found.log found.log_there

-- ---- core after core

-- one more core in a list of the first cores
pub In-one_more : (cores more : List ℕ) (n added : ℕ) → more ≡ cores ++ added ∷ [] → added ≡ n → ((core : ℕ) → core < n → In core cores) → (core : ℕ) → core < n + 1 → In core more
In-one_more cores more n added push is h core l = subst (λ (cs : List ℕ). In core cs) (sym push) (elim (cases_lt core n) [
  | inl below ↦ In-append_left core cores (added ∷ []) (h core below)
  | inr at ↦ In-append_right core cores (added ∷ []) (inl (omega arith))
])

-- a list of cores that every fault is of gives the least fault
pub least_by_cores : (faults : List RuleFault) (cores : List ℕ) → ((f : RuleFault) → In f faults → In f.id.core cores) → least_of_cores faults cores ≡ least_of core_fault_cmp faults
least_by_cores faults cores whole =
    same_least core_fault_cmp core_fault_total (flat_map (faults_of_core faults) cores) faults (λ a b p q tied. tied_core_faults a b tied)
    (λ f p. (let found = flat_map-In (faults_of_core faults) cores f p in (In-filter (is_of found.0) faults f found.2).0))
    (λ f p. In-flat_map (faults_of_core faults) cores f.id.core f (whole f p) (In-filtered (is_of f.id.core) faults f p (eq-eqb f.id.core f.id.core refl)))

-- the least fault of the first cores, with that of one more core
pub least_with_core : (faults : List RuleFault) (cores : List ℕ) (k core : ℕ) (least found next : Option RuleFault) → k < length cores → core ≡ get_or cores k core → least ≡ least_of_cores faults (take k cores) → found ≡ least_of_core faults core → next ≡ lesser ghosts.cmp least found → next ≡ least_of_cores faults (take (k + 1) cores)
least_with_core faults cores k core least found next within here so_far of_core chosen =
    let joined = least_of_cores-joined faults (take k cores) (core ∷ []) in
    let alone : least_of_cores faults (core ∷ []) ≡ least_of_core faults core = ap (least_of core_fault_cmp) (append-nil (faults_of_core faults core)) in
    let more = take_more cores k core within in
    cc
