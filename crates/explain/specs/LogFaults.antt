-- The explanation of a core's log that breaks a rule.
use Rattle.std.specs.Prelude.{◌≡◌, ◌<◌, ◌+◌, ℕ, suc, List, Option, Some, IfSome, IsSomeAnd, option_map, slice_get, slice_index, map, take}
use Rattle.mem_op.specs.declared.id.OpId.{OpId}
use Rattle.log_record.specs.declared.record.Entry.{Entry}
use Rattle.log_record.specs.declared.record.Record.{Record}
use Rattle.log_record.specs.Entries.{core_entries, operation_of}
use Rattle.core_program.specs.declared.instruction.Instruction.{Instruction}
use Rattle.core_program.specs.Answers.{line_in_set}
use Rattle.core_program.specs.Running.{next_op, state_after}
use Rattle.core_program.specs.State.{State, reg}
use Rattle.explain.specs.declared.explanation.Departure.{Departure}
use Rattle.explain.specs.declared.explanation.Fall.{Fall}
use Rattle.explain.specs.Windows.{window}

-- the records of a core with their ids
abbrev pub of_core : ℕ → List Record → List Entry
of_core core log = core_entries core 0 log

-- the record of this id, the one before it in its log, and those around it
pub record IsFall (log : List Record) (id : OpId) (fall : Fall) : Type 0 where
  pub index : ℕ
  pub later : id.index ≡ suc index
  pub before : slice_get (of_core id.core log) index ≡ Some fall.before
  pub fault : slice_get (of_core id.core log) id.index ≡ Some fall.fault
  pub rows : fall.rows.items ≡ window (of_core id.core log) id.index

-- the state to which a program comes by the records before an index, if these are what it issues, each load with its logged value
abbrev pub IsStateAt : List Instruction → List Record → ℕ → State → Type 0
IsStateAt program log index state = state_after program (map operation_of (take index log)) ≡ Some state

-- What stands at this id in its log, if the log goes that far, and the records around it. If the core's program issues the records before it, also
-- what the program's registers hold then, and the operation that the program issues next, if it hasn't ended, with its instruction and the
-- instruction's line in the programs' text.
pub record IsDeparture (programs : List (List Instruction)) (log : List Record) (id : OpId) (departure : Departure) : Type 0 where
  pub program : List Instruction
  pub there : slice_get programs id.core ≡ Some program
  pub id_is : departure.id ≡ id
  pub found : departure.found ≡ slice_get (of_core id.core log) id.index
  pub rows : departure.rows.items ≡ window (of_core id.core log) id.index
  pub due : (state : State) → IsStateAt program log id.index state → option_map (λ due. due.op) departure.due ≡ next_op program state
  pub instruction : (state : State) → IsStateAt program log id.index state → option_map (λ due. due.instruction) departure.due ≡ slice_get program state.position
  pub line : (state : State) → IsStateAt program log id.index state → IfSome departure.due (λ due. due.line ≡ line_in_set programs id.core (state.position + 1))
  pub registers : (state : State) → IsStateAt program log id.index state → (n : ℕ) → n < 16 → slice_index departure.registers n ≡ reg state n

-- the same against the programs that were given
abbrev pub IsDepartureBy : Option (List (List Instruction)) → List Record → OpId → Departure → Type 0
IsDepartureBy programs log id departure = IsSomeAnd programs (λ set. IsDeparture set log id departure)
