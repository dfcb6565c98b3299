-- The ranges have what may give a read its value.
use Rattle.std.specs.Prelude.{◌≡◌, ℕ, ◌<◌, List, Some, slice_get}
use Rattle.mem_op.specs.declared.id.OpId.{OpId}
use Rattle.mem_op.specs.Consistency.{Operation, operation_at}
use Rattle.refutation.specs.declared.step.Point.TheVariants.{Init, At}
use Rattle.refutation.specs.declared.step.Range.{Range}
use Rattle.refutation.specs.Rules.{MayGive, LiesIn}

-- an operation lies in the ranges if it may give the read its value
abbrev pub CoversOne : OpId → ℕ → ℕ → List Range → OpId → Operation → Type 0
CoversOne read addr value ranges id operation = MayGive addr value read id operation → LiesIn ranges (At id)

-- the same for the first n operations of a core
abbrev pub CoversFirst : OpId → ℕ → ℕ → List Range → ℕ → ℕ → List Operation → Type 0
CoversFirst read addr value ranges core n operations =
    (index : ℕ) (y : Operation) → index < n → slice_get operations index ≡ Some y → CoversOne read addr value ranges (record { core = core; index = index }) y

-- the same for all operations, and for the initial 0
pub record Covers (cores : List (List Operation)) (read : OpId) (addr value : ℕ) (ranges : List Range) : Type 0 where
  pub init : value ≡ 0 → LiesIn ranges Init
  pub writes : (id : OpId) (operation : Operation) → operation_at cores id ≡ Some operation → CoversOne read addr value ranges id operation
