-- Laws of programs.
use Rattle.std.specs.Prelude.{◌≡◌, ◌≢◌, ◌↔◌, ℕ, ◌≤◌, List, length, Some, None, slice_get}
use Rattle.mem_op.specs.Consistency.{Operation, Swapped}
use Rattle.core_program.specs.declared.format.ProgramFormat.TheVariants.{One}
use Rattle.core_program.specs.declared.instruction.Instruction.{Instruction}
use Rattle.core_program.specs.State.{State}
use Rattle.core_program.specs.Shape.{IsOfFormat, IsProgram}
use Rattle.core_program.specs.Meaning.{Path}
use Rattle.core_program.specs.Running.{IsAtRest, run_from}
use Rattle.core_program.specs.Conforming.{Reaches, Conforms, DiffersAt, program_fault}

-- between states at rest, operations lead from one to the other exactly if a path of the program does
abbrev pub RunsArePaths : Type 0
RunsArePaths =
    (program : List Instruction) (s t : State) (operations : List Operation) →
    IsProgram program → IsAtRest program s → IsAtRest program t → (run_from program s operations ≡ Some t) ↔ Path program s operations t

-- a log conforms exactly if it has no PROGRAM fault
abbrev pub ConformingIsNoFault : Type 0
ConformingIsNoFault =
    (program : List Instruction) (operations : List Operation) →
    IsProgram program → (program_fault program operations ≡ None) ↔ Conforms program operations

-- the PROGRAM fault is where the log differs from what the program issues
abbrev pub FaultIsWhereLogDiffers : Type 0
FaultIsWhereLogDiffers =
    (program : List Instruction) (operations : List Operation) (i : ℕ) →
    IsProgram program → (program_fault program operations ≡ Some i) ↔ DiffersAt program operations i

-- a program issues at most 4,096 operations
abbrev pub FewOperations : Type 0
FewOperations =
    (program : List Instruction) (operations : List Operation) (s : State) →
    IsProgram program → Reaches program operations s → length operations ≤ 4096

-- a program of format 1 performs no swap
abbrev pub NoSwapsInFormatOne : Type 0
NoSwapsInFormatOne =
    (program : List Instruction) (operations : List Operation) (s : State) (i addr read stored : ℕ) →
    IsOfFormat One program → Reaches program operations s → slice_get operations i ≢ Some (Swapped addr read stored)
