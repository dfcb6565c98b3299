-- The faults of a set's logs, as those of a verdict.
use Rattle.std.specs.Prelude.{◌≡◌, List, Option}
use Rattle.line_stamps.specs.Ordered.{In}
use Rattle.log_record.specs.declared.record.Record.{Record}
use Rattle.core_program.specs.declared.instruction.Instruction.{Instruction}
use Rattle.core_check.specs.declared.fault.RuleFault.{RuleFault}
use Rattle.verdict.specs.CoreFaultsOf.{core_faults}
use Rattle.verdict.specs.FaultParts.{FaultParts}
use Rattle.verdict.specs.Faults.{from_core}

-- a core fault of the set, against the programs of its cores if they are given
abbrev pub IsCoreFault : Option (List (List Instruction)) → List (List Record) → FaultParts → Type 0
IsCoreFault programs logs fault = (found : RuleFault) × In found (core_faults programs logs) × (fault ≡ from_core found)
