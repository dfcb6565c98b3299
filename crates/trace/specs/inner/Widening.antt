-- Cores without operations.
use Rattle.std.specs.Prelude.{◌≡◌, ℕ, List}
use Rattle.mem_op.specs.Consistency.{Operation}
use Rattle.trace.specs.Growing.{with_operation, SameOperations}

-- nothing was added but cores without operations, and no more of them than an operation of this core adds
pub record IsWidened (core : ℕ) (old new : List (List Operation)) : Type 0 where
  pub same : SameOperations old new
  pub alike : (operation : Operation) → with_operation core operation new ≡ with_operation core operation old
