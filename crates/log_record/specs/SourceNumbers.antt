-- A number for each source.
use Rattle.std.specs.Prelude.{◌≡◌, ℕ, zero, suc, ◌+◌, ◌*◌, ◌/◌, ◌%◌, refl}
use Rattle.std.proofs.Common.{arith}
use Rattle.mem_op.specs.Limits.{operation_limit}
use Rattle.mem_op.specs.declared.id.OpId.{OpId}
use Rattle.mem_op.specs.declared.id.Source.{Source}
use Rattle.mem_op.specs.declared.id.Source.TheVariants.{Init, Store}

-- the number of the store of an id: no other store has it, and none has 0
abbrev pub store_number : OpId → ℕ
store_number id = 1 + id.core * operation_limit + id.index

abbrev pub source_number : Source → ℕ
source_number Init = 0
source_number (Store id) = store_number id

-- the source of a number
abbrev pub numbered : ℕ → Source
numbered zero = Init
numbered (suc place) = Store (record { core = place / operation_limit; index = place % operation_limit })

-- no number is lost
pub source_number-numbered : (number : ℕ) → source_number (numbered number) ≡ number
source_number-numbered zero = refl
source_number-numbered (suc place) = omega arith
