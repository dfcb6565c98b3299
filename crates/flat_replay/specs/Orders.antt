-- Which id can come next in an order of operations, and where a list of ids goes wrong as an order of all of them.
use Rattle.std.specs.Prelude.{◌≡◌, ℕ, ◌<◌, ◌==◌, ◌⊎◌, List, length, count_by, Some, slice_get, take}
use Rattle.std.specs.List.{filter_map}
use Rattle.mem_op.specs.Consistency.{Operation, IsSequentialOrder, last_value, operation_at}
use Rattle.mem_op.specs.declared.id.OpId.{OpId}
use Rattle.flat_replay.specs.Memory.{IsAnsweredBy}

-- The operation of this id can come next after those of the ids `before`. Its index is the number of these that are of its core, and a load or a swap
-- finds in memory the word that it read.
pub record ComesNext (cores : List (List Operation)) (before : List OpId) (id : OpId) : Type 0 where
  pub operation : Operation
  pub there : operation_at cores id ≡ Some operation
  pub in_turn : count_by (λ (other : OpId). other.core == id.core) before ≡ id.index
  pub answered : IsAnsweredBy (λ addr. last_value addr (filter_map (operation_at cores) before)) operation

-- each id before this place can come next after those before it
abbrev pub ComeInOrder : List (List Operation) → List OpId → ℕ → Type 0
ComeInOrder cores ids place = (k : ℕ) (id : OpId) → k < place → slice_get ids k ≡ Some id → ComesNext cores (take k ids) id

-- the ids come in order up to this place, and the one at it can't come next
pub record IsFirstWrongId (cores : List (List Operation)) (ids : List OpId) (place : ℕ) : Type 0 where
  pub right : ComeInOrder cores ids place
  pub id : OpId
  pub there : slice_get ids place ≡ Some id
  pub wrong : ComesNext cores (take place ids) id → ⊥

-- the ids come in order up to this place, and the one at it can't come next, or the ids end there and aren't an order of all operations
abbrev pub IsFirstWrongPlace : List (List Operation) → List OpId → ℕ → Type 0
IsFirstWrongPlace cores ids place =
    IsFirstWrongId cores ids place ⊎ ((place ≡ length ids) × ComeInOrder cores ids place × ¬ (IsSequentialOrder cores ids))
