-- Laws of the texts of programs and of sets of programs.
use Rattle.std.specs.Prelude.{◌≡◌, ◌≢◌, ℕ, List}
use Rattle.std.specs.List.{AllByRecursion}
use Rattle.core_program.specs.declared.instruction.Instruction.{Instruction}
use Rattle.core_program.specs.declared.format.ProgramFormat.{ProgramFormat}
use Rattle.core_program.specs.declared.fault.ProgramFault.{ProgramFault}
use Rattle.core_program.specs.declared.fault.ProgramFault.TheVariants.{OutOfMemory}
use Rattle.core_program.specs.Answers.{SpellsProgram, SpellsSet, IsProgramFault, IsSetFault}
use Rattle.core_program.specs.SetParts.{SetParts}
use Rattle.core_program.specs.Shape.{IsProgram}

-- no two programs have the same text, whatever their formats, and a program's text has no fault but lack of memory: so a reading gives it
pub record PrintedIsRead : Type 0 where
  pub one_program : (f g : ProgramFormat) (bytes : List ℕ) (p q : List Instruction) → SpellsProgram f bytes p → SpellsProgram g bytes q → p ≡ q
  pub no_fault : (format : ProgramFormat) (bytes : List ℕ) (program : List Instruction) (fault : ProgramFault) → SpellsProgram format bytes program → IsProgram program
      → IsProgramFault format bytes fault → fault ≡ OutOfMemory

-- no two sets have the same text, whatever their formats, and a text of a set of programs has no fault but lack of memory
pub record SpelledSetIsRead : Type 0 where
  pub one_set : (bytes : List ℕ) (s t : SetParts) → SpellsSet bytes s → SpellsSet bytes t → s ≡ t
  pub no_fault : (bytes : List ℕ) (set : SetParts) (fault : ProgramFault) → SpellsSet bytes set → AllByRecursion IsProgram set.programs
      → IsSetFault bytes fault → fault ≡ OutOfMemory

-- bytes have at most one fault, apart from lack of memory
abbrev pub AtMostOneFault : (List ℕ → ProgramFault → Type 0) → Type 0
AtMostOneFault IsFault =
    (bytes : List ℕ) (f g : ProgramFault) → IsFault bytes f → IsFault bytes g → f ≢ OutOfMemory → g ≢ OutOfMemory → f ≡ g
