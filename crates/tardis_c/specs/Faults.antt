-- Why numbers aren't the operations of cores. `IsOne` says that the numbers of an operation are in range.
use Rattle.std.specs.Prelude.{◌≡◌, ◌<◌, ◌≤◌, ℕ, List, length, take, slice_get, Some, All}
use Rattle.mem_op.specs.Limits.{operation_limit}
use Rattle.tardis_c.specs.declared.operations_fault.OperationsFault.{OperationsFault}
use Rattle.tardis_c.specs.declared.operations_fault.OperationsFault.TheVariants.{OutOfMemory, OutOfRange, TooMany}

-- a core may have performed these: their numbers are in range, and there are at most 2^20 of them
abbrev pub AreOperations : {X : Type 0} → (X → Type 0) → List X → Type 0
AreOperations IsOne part = (length part ≤ operation_limit) × All IsOne part

-- the core has more operations than a log may have
abbrev pub HasTooMany : {X : Type 0} → List X → Type 0
HasTooMany part = operation_limit < length part

-- the operation at this index is the first whose numbers are out of range
pub record IsFirstBad {X : Type 0} (IsOne : X → Type 0) (part : List X) (index : ℕ) : Type 0 where
  pub before : All IsOne (take index part)
  pub op : X
  pub there : slice_get part index ≡ Some op
  pub bad : IsOne op → ⊥

-- why these aren't the operations of a core
abbrev pub IsFaultOf : {X : Type 0} → (X → Type 0) → ℕ → List X → OperationsFault → Type 0
IsFaultOf IsOne core part OutOfMemory = ⊥
IsFaultOf IsOne core part (TooMany at) = (at ≡ core) × HasTooMany part
IsFaultOf IsOne core part (OutOfRange at index) = (at ≡ core) × (length part ≤ operation_limit) × IsFirstBad IsOne part index

-- the first core that can't have performed its operations, and why; lack of memory may come at any time
abbrev pub IsFirstFault : {X : Type 0} → (X → Type 0) → List (List X) → OperationsFault → Type 0
IsFirstFault IsOne parts OutOfMemory = Unit {0}
IsFirstFault {X = X} IsOne parts (TooMany core) =
    All (AreOperations IsOne) (take core parts) × ((part : List X) × (slice_get parts core ≡ Some part) × HasTooMany part)
IsFirstFault {X = X} IsOne parts (OutOfRange core index) =
    All (AreOperations IsOne) (take core parts)
    × ((part : List X) × (slice_get parts core ≡ Some part) × (length part ≤ operation_limit) × IsFirstBad IsOne part index)
