-- What a state of a replay stands for, and what is told about a load that can't come next.
use Rattle.std.specs.Prelude.{◌≡◌, ◌≢◌, ℕ, ◌-◌, ◌<◌, ◌^◌, min, List, [], ◌∷◌, ◌++◌, Option, Some, length, count_by, find, reverse, slice_index}
use Rattle.std.specs.Option.{option_map}
use Rattle.mem_op.specs.Consistency.{Operation, is_store_to, word_left}
use Rattle.mem_op.specs.Parts.{IdParts}
use Rattle.mem_op.specs.declared.id.OpId.{OpId}
use Rattle.flat_replay.specs.Accesses.{address_of, word_read}
use Rattle.flat_replay.specs.Memory.{last_at, word_after}
use Rattle.trace_replay.specs.Parts.{WrongParts}
use Rattle.trace_replay.specs.Steps.{Step, is_of_core, next_step, AreCountedAfter, AreInOrder}
use Rattle.trace_replay.specs.declared.replayer.Replayer.{Replayer}

-- a number, as far as 64 bits count
abbrev pub counted : ℕ → ℕ
counted n = min n (2 ^ 64 - 1)

abbrev pub counted_id : OpId → IdParts
counted_id id = record { core = id.core; index = counted id.index }

-- the word that a step stored, and which operation it is
abbrev pub stored_by : Step → ℕ × IdParts
stored_by step = (word_left step.operation, counted_id step.id)

-- the last store to an address
abbrev pub last_store : ℕ → List Step → Option (ℕ × IdParts)
last_store addr steps = option_map stored_by (find (λ step. is_store_to addr step.operation) (reverse steps))

-- the steps were performed in a sequential order, and this is the memory and these are the numbers after them
pub record StandsFor (replayer : Replayer) (steps : List Step) : Type 0 where
  pub counted_ids : AreCountedAfter [] steps
  pub order : AreInOrder steps
  pub cores : length replayer.counts ≡ 64
  pub counts : (core : ℕ) → core < 64 → slice_index replayer.counts core ≡ counted (count_by (is_of_core core) steps)
  pub memory : (addr : ℕ) → last_at replayer.memory addr ≡ last_store addr steps
  pub count : replayer.count ≡ counted (length steps)

-- with this operation of a core after them, the steps aren't in a sequential order: what is told about the operation
pub record IsWrong (steps : List Step) (core : ℕ) (operation : Operation) (wrong : WrongParts) : Type 0 where
  pub isnt : ¬ AreInOrder (steps ++ next_step steps core operation ∷ [])
  pub id : wrong.id ≡ counted_id (next_step steps core operation).id
  pub addr : wrong.addr ≡ address_of operation
  pub read : word_read operation ≡ Some wrong.read
  pub last : wrong.last ≡ last_store wrong.addr steps
  pub differs : wrong.read ≢ word_after wrong.last
