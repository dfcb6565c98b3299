-- From the verdict on a set to one order of its operations: its records by key.
use Rattle.std.specs.Prelude.{◌≡◌, ℕ, suc, List, [], ◌∷◌, refl, Option, Some, None, All, filter, length, map}
use Rattle.std.specs.Option.{option_map, option_map_or, option_or}
use Rattle.std.specs.List.{AllZip}
use Rattle.std.proofs.Common.{arith, inl}
use Rattle.std.proofs.lemmas.Bool.{false_from_ne_true}
use Rattle.mem_op.specs.Consistency.{IsSequentialOrder, IsConsistent}
use Rattle.line_stamps.specs.Ordered.{In}
use Rattle.line_stamps.proofs.Ordered.{In-append_left, In-append_right, In-mapped, none_from_least, In-filtered, In-filter_map}
use Rattle.log_record.specs.declared.record.Record.{Record}
use Rattle.log_record.specs.declared.record.Entry.{Entry}
use Rattle.log_record.specs.Entries.{operation_of, operations_of, entries}
use Rattle.line_stamps.specs.Least.{least_of}
use Rattle.core_check.specs.declared.fault.RuleFault.{RuleFault}
use Rattle.core_check.specs.FaultOrder.{core_fault_cmp}
use Rattle.core_check.specs.CoreFaults.{breaks_core_order, order_fault, order_faults, program_fault_at, program_faults_of, program_faults_from, program_faults}
use Rattle.core_program.specs.declared.instruction.Instruction.{Instruction}
use Rattle.core_program.specs.Conforming.{Conforms, program_fault}
use Rattle.core_program.specs.Shape.{IsProgram}
use Rattle.core_program.proofs.Faults.{fault-conforms}
use Rattle.address_check.specs.declared.fault.AddressFault.{AddressFault}
use Rattle.address_check.specs.FaultOrder.{fault_cmp}
use Rattle.address_check.specs.AddressFaults.{address_fault, address_faults, least_address_fault}
use Rattle.verdict.specs.declared.answer.Verdict.TheVariants.{Yes, No}
use Rattle.verdict.specs.ByKey.{ids_by_key}
use Rattle.verdict.specs.Faults.{from_core, from_address}
use Rattle.verdict.specs.FlatMachine.{RunsFlat}
use Rattle.verdict.specs.CoreFaultsOf.{core_faults, faults_by_programs}
use Rattle.verdict.specs.VerdictOf.{verdict_of, verdict_by, verdict_with, run_verdict_of}
use Rattle.verdict.proofs.FlatRuns.{runs_flat}
use Rattle.verdict.proofs.SerialOrder.{by_key-serial}
use Rattle.verdict.proofs.ProgramOrder.{by_key-program}
use Rattle.verdict.proofs.FlatAnswers.{NoAddressFault, by_key-flat}

-- where the verdict is Yes there is no fault
no_faults : (core : Option RuleFault) (address : Option AddressFault) (n count : ℕ) → option_map_or No (option_or (option_map from_core core) (option_map from_address address)) (Yes n) ≡ Yes count → (core ≡ None) × (address ≡ None)
no_faults core address n count h = grind arith

none_of_addresses : (logs : List (List Record)) → least_address_fault (entries logs) ≡ None → NoAddressFault logs
none_of_addresses logs none e p =
    let no = λ (f : AddressFault) (h : address_fault (entries logs) e ≡ Some f). none_from_least fault_cmp (address_faults (entries logs)) f none (In-filter_map (address_fault (entries logs)) (entries logs) e f p h) in
    grind (arith, no)

-- the ids of a set that gets Yes, by key, are a sequential order of its operations, whatever faults were sought besides those of core order
sequential_by : (faults : List RuleFault) (logs : List (List Record)) (count : ℕ) → ((f : RuleFault) → In f (order_faults logs) → In f faults) → verdict_with (least_of core_fault_cmp faults) logs ≡ Yes count
    → IsSequentialOrder (operations_of logs) (ids_by_key logs)
sequential_by faults logs count sought h =
    let none = no_faults (least_of core_fault_cmp faults) (least_address_fault (entries logs)) (length (entries logs)) count h in
    record {
      serial = by_key-serial logs;
      program = by_key-program logs (λ e p. false_from_ne_true (breaks_core_order logs e) (λ breaks.
          none_from_least core_fault_cmp faults (order_fault e.id) none.0 (sought (order_fault e.id)
          (In-mapped (λ (x : Entry). order_fault x.id) e (filter (breaks_core_order logs) (entries logs)) (In-filtered (breaks_core_order logs) (entries logs) e p breaks)))));
      flat = by_key-flat logs (none_of_addresses logs none.1);
    }

pub yes_is_sequential : (logs : List (List Record)) (count : ℕ) → verdict_of logs ≡ Yes count → IsSequentialOrder (operations_of logs) (ids_by_key logs)
yes_is_sequential logs count h = sequential_by (order_faults logs) logs count (λ f p. p) h

pub yes_is_consistent : (logs : List (List Record)) (count : ℕ) → verdict_of logs ≡ Yes count → IsConsistent (operations_of logs)
yes_is_consistent logs count h = (ids_by_key logs, yes_is_sequential logs count h)

-- ---- with programs

pub yes_by_is_consistent : (programs : Option (List (List Instruction))) (logs : List (List Record)) (count : ℕ) → verdict_by programs logs ≡ Yes count → IsConsistent (operations_of logs)
yes_by_is_consistent programs logs count h =
    (ids_by_key logs, sequential_by (core_faults programs logs) logs count (λ f p. In-append_left f (order_faults logs) (faults_by_programs programs logs) p) h)

-- logs without a PROGRAM fault conform
conform : (core : ℕ) (programs : List (List Instruction)) (logs : List (List Record)) → All IsProgram programs → length programs ≡ length logs → ((f : RuleFault) → In f (program_faults_from core programs logs) → ⊥)
    → AllZip Conforms programs (operations_of logs)
conform core [] [] are many none = tt
conform core [] (log ∷ logs) are many none = absurd cc
conform core (program ∷ programs) [] are many none = absurd cc
conform core (program ∷ programs) (log ∷ logs) are many none = (
  fault-conforms program (map operation_of log) (are 0 program (omega arith))
      (no_one (program_fault program (map operation_of log)) (λ f p. none f (In-append_left f (program_faults_of core program log) (program_faults_from (suc core) programs logs) p))),
  conform (suc core) programs logs (λ k d l. are (suc k) d (omega arith)) (omega arith)
      (λ f p. none f (In-append_right f (program_faults_of core program log) (program_faults_from (suc core) programs logs) p)),
)
  where
    no_one : (o : Option ℕ) → ((f : RuleFault) → In f (option_map_or (λ i. program_fault_at (record { core = core; index = i }) ∷ []) o []) → ⊥) → o ≡ None
    no_one None h = refl
    no_one (Some i) h = absurd (h (program_fault_at (record { core = core; index = i })) (inl refl))

pub run_yes_runs_flat : (programs : List (List Instruction)) (logs : List (List Record)) (count : ℕ) → All IsProgram programs → length programs ≡ length logs → run_verdict_of programs logs ≡ Yes count → RunsFlat programs (operations_of logs)
run_yes_runs_flat programs logs count are many h =
    let none = no_faults (least_of core_fault_cmp (core_faults (Some programs) logs)) (least_address_fault (entries logs)) (length (entries logs)) count h in
    runs_flat programs (operations_of logs)
    (conform 0 programs logs are many (λ f p. none_from_least core_fault_cmp (core_faults (Some programs) logs) f none.0 (In-append_right f (order_faults logs) (program_faults programs logs) p)))
    (yes_by_is_consistent (Some programs) logs count h)
