-- The next operation of a program, and the states in which a core waits for its answer.
use Rattle.std.specs.Prelude.{ℕ, zero, suc, ◌+◌, ◌%◌, ◌^◌, ◌<◌, ◌≤◌, Bool, false, ◌&&◌, ◌==◌, if◌then◌else◌, List, [], ◌∷◌, length, Option, Some, None, IsSome, is_some, option_and_then, slice_get}
use Rattle.std.specs.Option.{option_map_or}
use Rattle.mem_op.specs.declared.id.Op.{Op}
use Rattle.mem_op.specs.declared.id.Op.TheVariants as op
use Rattle.mem_op.specs.Consistency.{Operation, Loaded, Stored, Swapped, word_answered}
use Rattle.core_program.specs.declared.instruction.Instruction.{Instruction}
use Rattle.core_program.specs.declared.instruction.Instruction.TheVariants.{Load, Store, StoreRegister, Add, SkipIfZero, Swap}
use Rattle.core_program.specs.State.{State, start, reg, with_reg, further}

-- ---- operations before and after their answer

-- an operation as it was issued, before its answer
abbrev pub op_of : Operation → Op
op_of (Loaded addr value) = op.Load addr
op_of (Stored addr value) = op.Store addr value
op_of (Swapped addr read stored) = op.Swap addr stored

-- the operation once it is answered: a load or a swap reads the answer, a store has no use for it
abbrev pub performed : Op → ℕ → Operation
performed (op.Load addr) answer = Loaded addr answer
performed (op.Store addr value) answer = Stored addr value
performed (op.Swap addr value) answer = Swapped addr answer value

-- whether an operation is the one that was issued
abbrev pub is_issued : Option Op → Operation → Bool
is_issued None operation = false
is_issued (Some (op.Load addr)) (Loaded a v) = a == addr
is_issued (Some (op.Load addr)) (Stored a v) = false
is_issued (Some (op.Load addr)) (Swapped a r v) = false
is_issued (Some (op.Store addr value)) (Loaded a v) = false
is_issued (Some (op.Store addr value)) (Stored a v) = (a == addr) && (v == value)
is_issued (Some (op.Store addr value)) (Swapped a r v) = false
is_issued (Some (op.Swap addr value)) (Loaded a v) = false
is_issued (Some (op.Swap addr value)) (Stored a v) = false
is_issued (Some (op.Swap addr value)) (Swapped a r v) = (a == addr) && (v == value)

-- ---- one instruction

-- the operation that an instruction issues, or none if it touches no memory
abbrev pub issued : Instruction → State → Option Op
issued (Load to addr) s = Some (op.Load addr)
issued (Store addr value) s = Some (op.Store addr value)
issued (StoreRegister addr from) s = Some (op.Store addr (reg s from))
issued (Add to from value) s = None
issued (SkipIfZero tested skip) s = None
issued (Swap to addr value) s = Some (op.Swap addr value)

-- the state after an instruction, which reads the answer if it is a load or a swap
abbrev pub after : Instruction → ℕ → State → State
after (Load to addr) answer s = further 1 (with_reg s to answer)
after (Store addr value) answer s = further 1 s
after (StoreRegister addr from) answer s = further 1 s
after (Add to from value) answer s = further 1 (with_reg s to ((reg s from + value) % 2 ^ 64))
after (SkipIfZero tested skip) answer s = further (if reg s tested == 0 then 1 + skip else 1) s
after (Swap to addr value) answer s = further 1 (with_reg s to answer)

-- ---- states at rest

-- the operation that the next instruction issues
abbrev pub next_op : List Instruction → State → Option Op
next_op program s = option_and_then (λ instruction. issued instruction s) (slice_get program s.position)

-- A core rests at an instruction that issues an operation, or at the end of its program.
pub record IsAtRest (program : List Instruction) (s : State) : Type 0 where
  pub within : s.position ≤ length program
  pub waits : s.position < length program → IsSome (next_op program s)

-- the state in which a core comes to rest from s on, if n instructions are enough
abbrev pub rest_within : ℕ → List Instruction → State → State
rest_within zero program s = s
rest_within (suc n) program s =
    option_map_or (λ instruction. if is_some (issued instruction s) then s else rest_within n program (after instruction 0 s)) (slice_get program s.position) s

-- The state at rest to which a core moves on from s. Each step moves past an instruction for good, so there are at most as
-- many steps as instructions.
abbrev pub at_rest : List Instruction → State → State
at_rest program s = rest_within (length program) program s

-- the state at rest that the answer to the next operation leads to
abbrev pub answered : List Instruction → ℕ → State → State
answered program answer s = option_map_or (λ instruction. at_rest program (after instruction answer s)) (slice_get program s.position) s

-- ---- many operations

-- the state at rest that these operations lead to from a state at rest, or None if one of them isn't what was issued
abbrev pub run_from : List Instruction → State → List Operation → Option State
run_from program s [] = Some s
run_from program s (operation ∷ operations) =
    if is_issued (next_op program s) operation then run_from program (answered program (word_answered operation) s) operations else None

-- the state at rest in which a core starts
abbrev pub start_of : List Instruction → State
start_of program = at_rest program start

-- the state at rest after a core's first operations, or None if one of them isn't what was issued
abbrev pub state_after : List Instruction → List Operation → Option State
state_after program operations = run_from program (start_of program) operations
