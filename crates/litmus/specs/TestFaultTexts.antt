-- The texts of the faults, and the fault of a test for each fault of a program.
use Rattle.std.specs.Prelude.{ℕ, List, ◌++◌, codes}
use Rattle.std.specs.Fmt.{decimal}
use Rattle.mem_op.specs.Names.{name_text}
use Rattle.mem_op.specs.declared.fault_name.FaultName.TheVariants as named
use Rattle.core_program.specs.declared.fault.ProgramFault.{ProgramFault}
use Rattle.core_program.specs.declared.fault.ProgramFault.TheVariants as program
use Rattle.litmus.specs.declared.litmus_fault.LitmusFault.{LitmusFault}
use Rattle.litmus.specs.declared.litmus_fault.LitmusFault.TheVariants.{BadLitmusLine, BadLine, TooLong, SkipPastEnd, OutOfMemory}

-- the line if there is one, a number and a name
abbrev pub fault_text : LitmusFault → List ℕ
fault_text (BadLitmusLine line) = codes "line " ++ (decimal line ++ (codes ": " ++ name_text named.BadLitmusLine))
fault_text (BadLine line) = codes "line " ++ (decimal line ++ (codes ": " ++ name_text named.BadProgramLine))
fault_text (TooLong line) = codes "line " ++ (decimal line ++ (codes ": " ++ name_text named.TooLong))
fault_text (SkipPastEnd line) = codes "line " ++ (decimal line ++ (codes ": " ++ name_text named.SkipPastEnd))
fault_text OutOfMemory = name_text named.OutOfMemory

-- a fault in a program of the test
abbrev pub from_program : ProgramFault → LitmusFault
from_program (program.BadLine line) = BadLine line
from_program (program.TooLong line) = TooLong line
from_program (program.SkipPastEnd line) = SkipPastEnd line
from_program program.OutOfMemory = OutOfMemory
