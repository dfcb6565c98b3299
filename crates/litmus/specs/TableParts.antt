-- The parts of a table that contracts see.
use Rattle.std.specs.Prelude.{ℕ, Bool, List}
use Rattle.litmus.specs.Parts.{ShownParts}

-- an outcome, how many runs had it, and whether the test forbids it
pub record RowParts : Type 0 where
  pub values : List ℕ
  pub count : ℕ
  pub forbidden : Bool

pub record TableParts : Type 0 where
  pub shown : List ShownParts
  pub rows : List RowParts
