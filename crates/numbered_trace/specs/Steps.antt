-- The steps of a search.
use Rattle.std.specs.Prelude.{ℕ}

pub record Steps : Type 0 where
  -- how many may be made in all
  pub all : ℕ
  -- how many of them weren't made
  pub left : ℕ
  -- how many of those are kept for what comes later
  pub kept : ℕ
  -- how many were made when a watch was last told
  pub told : ℕ
