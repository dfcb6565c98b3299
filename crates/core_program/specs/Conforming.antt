-- Logs that conform to a program, and the fault of one that doesn't.
use Rattle.std.specs.Prelude.{◌≡◌, ◌≢◌, ℕ, suc, ◌≤◌, if◌then◌else◌, List, [], ◌∷◌, length, Option, Some, None, is_some, option_map, slice_get, take}
use Rattle.mem_op.specs.declared.id.Op.{Op}
use Rattle.mem_op.specs.Consistency.{Operation, word_answered}
use Rattle.core_program.specs.declared.instruction.Instruction.{Instruction}
use Rattle.core_program.specs.State.{State, start}
use Rattle.core_program.specs.Meaning.{Path}
use Rattle.core_program.specs.Running.{IsAtRest, op_of, next_op, is_issued, answered, start_of}

-- from its start the program performs these operations, in this order, and comes to s
abbrev pub Reaches : List Instruction → List Operation → State → Type 0
Reaches program operations s = Path program start operations s

-- from its start to its end the program performs just these operations, in this order
abbrev pub Conforms : List Instruction → List Operation → Type 0
Conforms program operations = (s : State) × Reaches program operations s × (s.position ≡ length program)

-- after these operations the program issues this one, or none if it has ended
pub record Issues (program : List Instruction) (operations : List Operation) (next : Option Op) : Type 0 where
  pub state : State
  pub reached : Reaches program operations state
  pub rests : IsAtRest program state
  pub next_is : next_op program state ≡ next

-- The PROGRAM fault of a log: the operations before the index are those that the program issues, each load and each swap with
-- the word that it read, and what stands at the index isn't what the program issues there. It is another operation, or one
-- after the program has ended, or none although the program goes on.
pub record DiffersAt (program : List Instruction) (operations : List Operation) (i : ℕ) : Type 0 where
  pub within : i ≤ length operations
  pub next : Option Op
  pub issues : Issues program (take i operations) next
  pub differs : next ≢ option_map op_of (slice_get operations i)

-- the index at which operations first differ from those that a program issues from a state at rest on, or None if they don't
abbrev pub fault_from : List Instruction → State → List Operation → Option ℕ
fault_from program s [] = if is_some (next_op program s) then Some 0 else None
fault_from program s (operation ∷ operations) =
    if is_issued (next_op program s) operation then option_map suc (fault_from program (answered program (word_answered operation) s) operations) else Some 0

-- the PROGRAM fault of a log, or None if it conforms
abbrev pub program_fault : List Instruction → List Operation → Option ℕ
program_fault program operations = fault_from program (start_of program) operations
