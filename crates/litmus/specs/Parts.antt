-- The parts of a litmus test that contracts see.
use Rattle.std.specs.Prelude.{ℕ, List}
use Rattle.core_program.specs.declared.format.ProgramFormat.{ProgramFormat}
use Rattle.core_program.specs.declared.instruction.Instruction.{Instruction}

-- a register of a core
pub record ShownParts : Type 0 where
  pub core : ℕ
  pub register : ℕ

-- Its name, the programs of its cores and their format, the registers whose values at the end are the outcome of a run, and the outcomes that are
-- forbidden.
pub record LitmusParts : Type 0 where
  pub name : List ℕ
  pub format : ProgramFormat
  pub programs : List (List Instruction)
  pub shown : List ShownParts
  pub forbidden : List (List ℕ)
