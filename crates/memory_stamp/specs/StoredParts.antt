-- The parts of a word of memory.
use Rattle.std.specs.Prelude.{ℕ}
use Rattle.mem_op.specs.declared.id.Source.{Source}

-- the word, and where it comes from
pub record StoredParts : Type 0 where
  pub value : ℕ
  pub source : Source
