-- The core faults of a set of logs, stated over all its records at once.
use Rattle.std.specs.Prelude.{ℕ, suc, Bool, false, List, [], ◌∷◌, ◌++◌, Option, slice_get, filter, map}
use Rattle.std.specs.Option.{option_map_or}
use Rattle.mem_op.specs.declared.id.OpId.{OpId}
use Rattle.line_stamps.specs.Least.{least_of}
use Rattle.core_program.specs.declared.instruction.Instruction.{Instruction}
use Rattle.core_program.specs.Conforming.{program_fault}
use Rattle.log_record.specs.declared.record.Record.{Record}
use Rattle.log_record.specs.declared.record.Entry.{Entry}
use Rattle.log_record.specs.Entries.{entries, operation_of}
use Rattle.core_check.specs.declared.fault.CoreRule.TheVariants.{CoreOrder, Program}
use Rattle.core_check.specs.declared.fault.RuleFault.{RuleFault}
use Rattle.core_check.specs.FaultOrder.{core_fault_cmp}
use Rattle.core_check.specs.CoreOrder.{is_core_fault}

-- whether a record of the set has a lesser (ts, rank) than the one before it in its log
abbrev pub breaks_core_order : List (List Record) → Entry → Bool
breaks_core_order logs e =
    option_map_or (λ log. is_core_fault log e.id.index) (slice_get logs e.id.core) false

abbrev pub order_fault : OpId → RuleFault
order_fault id = record { rule = CoreOrder; id = id }

-- all core-order faults of the set
abbrev pub order_faults : List (List Record) → List RuleFault
order_faults logs = map (λ e. order_fault e.id) (filter (breaks_core_order logs) (entries logs))

abbrev pub least_core_fault : List (List Record) → Option RuleFault
least_core_fault logs = least_of core_fault_cmp (order_faults logs)

-- ---- with programs

-- the fault at an id where a log isn't what its core's program issues
abbrev pub program_fault_at : OpId → RuleFault
program_fault_at id = record { rule = Program; id = id }

-- the PROGRAM fault of a core's log, if it has one
abbrev pub program_faults_of : ℕ → List Instruction → List Record → List RuleFault
program_faults_of core program log =
    option_map_or (λ i. program_fault_at (record { core = core; index = i }) ∷ []) (program_fault program (map operation_of log)) []

-- the PROGRAM faults of cores core, core + 1, .., whose programs and logs these are
abbrev pub program_faults_from : ℕ → List (List Instruction) → List (List Record) → List RuleFault
program_faults_from core [] logs = []
program_faults_from core (program ∷ programs) [] = []
program_faults_from core (program ∷ programs) (log ∷ logs) =
    program_faults_of core program log ++ program_faults_from (suc core) programs logs

-- all PROGRAM faults of the set
abbrev pub program_faults : List (List Instruction) → List (List Record) → List RuleFault
program_faults programs logs = program_faults_from 0 programs logs
