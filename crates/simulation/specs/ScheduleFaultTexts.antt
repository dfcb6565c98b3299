-- The text of a fault: the line if there is one, a number and a name.
use Rattle.std.specs.Prelude.{ℕ, List, ◌++◌, codes}
use Rattle.std.specs.Fmt.{decimal}
use Rattle.mem_op.specs.Names.{name_text}
use Rattle.mem_op.specs.declared.fault_name.FaultName.TheVariants as named
use Rattle.simulation.specs.declared.schedule_fault.ScheduleFault.{ScheduleFault}
use Rattle.simulation.specs.declared.schedule_fault.ScheduleFault.TheVariants.{BadScheduleLine, OutOfMemory}

abbrev pub fault_text : ScheduleFault → List ℕ
fault_text (BadScheduleLine line) = codes "line " ++ (decimal line ++ (codes ": " ++ name_text named.BadScheduleLine))
fault_text OutOfMemory = name_text named.OutOfMemory
