-- The parts of a set of programs.
use Rattle.std.specs.Prelude.{List}
use Rattle.core_program.specs.declared.format.ProgramFormat.{ProgramFormat}
use Rattle.core_program.specs.declared.instruction.Instruction.{Instruction}

-- the format of the programs, and the programs, core 0's first
pub record SetParts : Type 0 where
  pub format : ProgramFormat
  pub programs : List (List Instruction)
