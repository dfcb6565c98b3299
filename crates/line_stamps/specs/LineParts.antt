-- The parts of a line.
use Rattle.std.specs.Prelude.{ℕ}
use Rattle.mem_op.specs.declared.id.Source.{Source}
use Rattle.line_stamps.specs.StampParts.{StampParts}

-- a word, where it comes from, and its stamps
pub record LineParts : Type 0 where
  pub value : ℕ
  pub source : Source
  pub stamps : StampParts
