-- Sequential consistency, as textbooks have it: one order of all operations that keeps each core's program
-- order, and in which each load answers the last earlier store to its address, or 0. A swap is a load and a
-- store at one place of the order.
use Rattle.std.specs.Prelude.{◌≡◌, ℕ, ◌<◌, Bool, false, ◌&&◌, ◌==◌, if◌then◌else◌, List, Option, Some, None, slice_get, is_some, option_and_then, AllPairs, count_by, find, reverse, take}
use Rattle.std.specs.List.{filter_map}
use Rattle.mem_op.specs.declared.id.OpId.{OpId}

-- a load of a value from an address, a store of a value to an address, or a swap: the two in one, with the
-- value that it reads and the value that it stores
pub data Operation : Type 0 where
  Loaded : (addr value : ℕ) → Operation
  Stored : (addr value : ℕ) → Operation
  Swapped : (addr read stored : ℕ) → Operation

-- the operation with this id; `cores` has each core's operations in program order
abbrev pub operation_at : List (List Operation) → OpId → Option Operation
operation_at cores id = option_and_then (λ operations. slice_get operations id.index) (slice_get cores id.core)

abbrev pub is_same_id : OpId → OpId → Bool
is_same_id a b = (a.core == b.core) && (a.index == b.index)

-- the list has each operation's id once, and nothing else
abbrev pub IsSerialOrder : List (List Operation) → List OpId → Type 0
IsSerialOrder cores order =
    (id : OpId) → count_by (is_same_id id) order ≡ (if is_some (operation_at cores id) then 1 else 0)

-- of two ids of the same core, the one that comes first has the lower index
abbrev pub KeepsProgramOrder : List OpId → Type 0
KeepsProgramOrder order = AllPairs (λ a b. a.core ≡ b.core → a.index < b.index) order

-- whether an operation is a store to the address; a swap counts as one
abbrev pub is_store_to : ℕ → Operation → Bool
is_store_to addr (Loaded a v) = false
is_store_to addr (Stored a v) = a == addr
is_store_to addr (Swapped a r v) = a == addr

-- the word that a core gets from its operation: the one that a load or a swap reads, or the one that a store writes
abbrev pub word_answered : Operation → ℕ
word_answered (Loaded a v) = v
word_answered (Stored a v) = v
word_answered (Swapped a r v) = r

-- the word at its address after an operation: a load leaves the word that it reads
abbrev pub word_left : Operation → ℕ
word_left (Loaded a v) = v
word_left (Stored a v) = v
word_left (Swapped a r v) = v

abbrev pub value_or_zero : Option Operation → ℕ
value_or_zero None = 0
value_or_zero (Some operation) = word_left operation

-- the flat answer: the value of the last store to the address among the operations, or 0
abbrev pub last_value : ℕ → List Operation → ℕ
last_value addr operations = value_or_zero (find (is_store_to addr) (reverse operations))

-- each load, and each swap by what it reads, answers the last earlier store to its address, or 0
pub record GivesFlatAnswers (operations : List Operation) : Type 0 where
  pub loads : (k addr value : ℕ) → slice_get operations k ≡ Some (Loaded addr value) → value ≡ last_value addr (take k operations)
  pub swaps : (k addr read stored : ℕ) → slice_get operations k ≡ Some (Swapped addr read stored) → read ≡ last_value addr (take k operations)

-- a serial order that keeps program order and in which each load and each swap has its flat answer
pub record IsSequentialOrder (cores : List (List Operation)) (order : List OpId) : Type 0 where
  pub serial : IsSerialOrder cores order
  pub program : KeepsProgramOrder order
  pub flat : GivesFlatAnswers (filter_map (operation_at cores) order)

-- the operations are sequentially consistent
abbrev pub IsConsistent : List (List Operation) → Type 0
IsConsistent cores = (order : List OpId) × IsSequentialOrder cores order
