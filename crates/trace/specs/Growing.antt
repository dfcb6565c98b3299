-- The cores of a trace, and how they grow.
use Rattle.std.specs.Prelude.{◌≡◌, ◌≤◌, ⊤, ℕ, zero, suc, List, [], ◌∷◌, ◌++◌, length}
use Rattle.mem_op.specs.Consistency.{Operation}
use Rattle.mem_op.specs.Limits.{operation_limit}
use Rattle.flat_replay.specs.Accesses.{own_operations}
use Rattle.trace.specs.declared.refusal.TraceFull.{TraceFull}
use Rattle.trace.specs.declared.refusal.TraceFull.TheVariants.{TooMany, OutOfMemory}

-- at most 64 cores, each of at most 1,048,576 operations
pub record IsOfSize (cores : List (List Operation)) : Type 0 where
  pub few : length cores ≤ 64
  pub short : (core : ℕ) → length (own_operations cores core) ≤ operation_limit

-- one more operation of a core, after its others; the cores up to this one are added if they aren't there
abbrev pub with_operation : ℕ → Operation → List (List Operation) → List (List Operation)
with_operation zero operation [] = (operation ∷ []) ∷ []
with_operation (suc core) operation [] = [] ∷ with_operation core operation []
with_operation zero operation (own ∷ others) = (own ++ operation ∷ []) ∷ others
with_operation (suc core) operation (own ∷ others) = own ∷ with_operation core operation others

-- why an operation isn't added: its core is full, or memory was refused
abbrev pub IsRefusal : ℕ → List (List Operation) → TraceFull → Type 0
IsRefusal core cores TooMany = operation_limit ≤ length (own_operations cores core)
IsRefusal core cores OutOfMemory = ⊤

-- why operations make no trace: there are too many, or memory was refused
abbrev pub IsRefusalOfAll : List (List Operation) → TraceFull → Type 0
IsRefusalOfAll cores TooMany = ¬ IsOfSize cores
IsRefusalOfAll cores OutOfMemory = ⊤

-- each core has the operations that it had
abbrev pub SameOperations : List (List Operation) → List (List Operation) → Type 0
SameOperations old new = (core : ℕ) → own_operations new core ≡ own_operations old core
