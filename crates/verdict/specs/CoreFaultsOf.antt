-- The core faults of a set, core by core.
use Rattle.std.specs.Prelude.{ℕ, ◌==◌, List, [], ◌++◌, Option, None, Some, filter, option_map}
use Rattle.std.specs.Borrow.{Bor}
use Rattle.std.specs.List.{flat_map}
use Rattle.line_stamps.specs.Least.{least_of}
use Rattle.log_record.specs.declared.record.Record.{Record}
use Rattle.core_program.specs.declared.instruction.Instruction.{Instruction}
use Rattle.core_program.specs.SetParts.{SetParts}
use Rattle.core_check.specs.declared.fault.RuleFault.{RuleFault}
use Rattle.core_check.specs.FaultOrder.{core_fault_cmp}
use Rattle.core_check.specs.CoreFaults.{order_faults, program_faults}

-- the programs that a reference leads to, if one is given
abbrev pub given : Option (Bor SetParts) → Option (List (List Instruction))
given = option_map (λ set. set.now.programs)

-- the faults against the programs of a set's cores, if they are given
abbrev pub faults_by_programs : Option (List (List Instruction)) → List (List Record) → List RuleFault
faults_by_programs None logs = []
faults_by_programs (Some programs) logs = program_faults programs logs

-- all core faults of a set
abbrev pub core_faults : Option (List (List Instruction)) → List (List Record) → List RuleFault
core_faults programs logs = order_faults logs ++ faults_by_programs programs logs

-- the faults of one core
abbrev pub faults_of_core : List RuleFault → ℕ → List RuleFault
faults_of_core faults core = filter (λ f. f.id.core == core) faults

abbrev pub least_of_core : List RuleFault → ℕ → Option RuleFault
least_of_core faults core = least_of core_fault_cmp (faults_of_core faults core)

-- the least of these cores' faults
abbrev pub least_of_cores : List RuleFault → List ℕ → Option RuleFault
least_of_cores faults cores = least_of core_fault_cmp (flat_map (faults_of_core faults) cores)
