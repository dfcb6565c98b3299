-- The parts of a wrong load.
use Rattle.std.specs.Prelude.{ℕ, Option}
use Rattle.mem_op.specs.Parts.{IdParts}

-- a load or a swap, its address, the word that it read, and the last store to the address before it with its word, if there was one
pub record WrongParts : Type 0 where
  pub id : IdParts
  pub addr : ℕ
  pub read : ℕ
  pub last : Option (ℕ × IdParts)
