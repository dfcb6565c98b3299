-- The text of a fault: the line if there is one, a number and a name.
use Rattle.std.specs.Prelude.{ℕ, List, ◌++◌, codes}
use Rattle.std.specs.Fmt.{decimal}
use Rattle.mem_op.specs.Names.{name_text}
use Rattle.mem_op.specs.declared.fault_name.FaultName.TheVariants as named
use Rattle.core_program.specs.declared.fault.ProgramFault.{ProgramFault}
use Rattle.core_program.specs.declared.fault.ProgramFault.TheVariants.{BadLine, TooLong, SkipPastEnd, OutOfMemory}

abbrev pub fault_text : ProgramFault → List ℕ
fault_text (BadLine line) = codes "line " ++ (decimal line ++ (codes ": " ++ name_text named.BadProgramLine))
fault_text (TooLong line) = codes "line " ++ (decimal line ++ (codes ": " ++ name_text named.TooLong))
fault_text (SkipPastEnd line) = codes "line " ++ (decimal line ++ (codes ": " ++ name_text named.SkipPastEnd))
fault_text OutOfMemory = name_text named.OutOfMemory
