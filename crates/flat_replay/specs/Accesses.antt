-- The parts of an operation, and the operations of each core.
use Rattle.std.specs.Prelude.{ℕ, List, [], Option, Some, None, map, slice_get, unwrap_or}
use Rattle.std.specs.Global.{Vec}
use Rattle.mem_op.specs.Consistency.{Operation, Loaded, Stored, Swapped}

abbrev pub address_of : Operation → ℕ
address_of (Loaded a v) = a
address_of (Stored a v) = a
address_of (Swapped a r v) = a

-- the word that a load or a swap read
abbrev pub word_read : Operation → Option ℕ
word_read (Loaded a v) = Some v
word_read (Stored a v) = None
word_read (Swapped a r v) = Some r

-- the operations that the vectors of the cores hold
abbrev pub operation_lists : List (Vec Operation) → List (List Operation)
operation_lists cores = map (λ core. core.items) cores

-- the operations of a core, or none if it isn't there
abbrev pub own_operations : List (List Operation) → ℕ → List Operation
own_operations cores core = unwrap_or (slice_get cores core) []
