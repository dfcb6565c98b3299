-- The verdict on a set of logs, stated over all its records at once.
use Rattle.std.specs.Prelude.{List, ◌++◌, Option, length}
use Rattle.std.specs.Option.{option_map, option_map_or, option_or}
use Rattle.line_stamps.specs.Least.{least_of}
use Rattle.log_record.specs.declared.record.Record.{Record}
use Rattle.log_record.specs.Entries.{entries}
use Rattle.core_program.specs.declared.instruction.Instruction.{Instruction}
use Rattle.core_check.specs.declared.fault.RuleFault.{RuleFault}
use Rattle.core_check.specs.FaultOrder.{core_fault_cmp}
use Rattle.core_check.specs.CoreFaults.{least_core_fault, order_faults, program_faults}
use Rattle.address_check.specs.AddressFaults.{least_address_fault}
use Rattle.verdict.specs.CoreFaultsOf.{core_faults}
use Rattle.verdict.specs.FaultParts.{FaultParts}
use Rattle.verdict.specs.Faults.{from_core, from_address}
use Rattle.verdict.specs.declared.answer.Verdict.{Verdict}
use Rattle.verdict.specs.declared.answer.Verdict.TheVariants.{Yes, No}

-- a core fault of a set, else the least address fault of all its records
abbrev pub first_fault : Option RuleFault → List (List Record) → Option FaultParts
first_fault core_fault logs =
    option_or
    (option_map from_core core_fault)
    (option_map from_address (least_address_fault (entries logs)))

-- No with that fault, else Yes with the number of records
abbrev pub verdict_with : Option RuleFault → List (List Record) → Verdict
verdict_with core_fault logs = option_map_or No (first_fault core_fault logs) (Yes (length (entries logs)))

-- the verdict on a set
abbrev pub verdict_of : List (List Record) → Verdict
verdict_of logs = verdict_with (least_core_fault logs) logs

-- the least core fault of a set whose cores ran these programs
abbrev pub least_run_fault : List (List Instruction) → List (List Record) → Option RuleFault
least_run_fault programs logs = least_of core_fault_cmp (order_faults logs ++ program_faults programs logs)

-- the verdict on a set whose cores ran these programs
abbrev pub run_verdict_of : List (List Instruction) → List (List Record) → Verdict
run_verdict_of programs logs = verdict_with (least_run_fault programs logs) logs

-- the verdict against programs if they are given, else without them
abbrev pub verdict_by : Option (List (List Instruction)) → List (List Record) → Verdict
verdict_by programs logs = verdict_with (least_of core_fault_cmp (core_faults programs logs)) logs
