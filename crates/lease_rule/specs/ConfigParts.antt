-- The parts of a configuration.
use Rattle.std.specs.Prelude.{ℕ}

pub record ConfigParts : Type 0 where
  pub slices : ℕ
  pub lease : ℕ
  pub period : ℕ
  pub cache_lines : ℕ
  pub slice_lines : ℕ
  pub inbox : ℕ
  pub turns : ℕ
