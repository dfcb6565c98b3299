-- The parts of a line's stamps.
use Rattle.std.specs.Prelude.{ℕ, max}

-- when the line was written, up to when it may be read, and the rank of the store that wrote it
pub record StampParts : Type 0 where
  pub wts : ℕ
  pub rts : ℕ
  pub wr : ℕ

-- the stamps with the lease extended to `t`, if it ends before that
abbrev pub leased_to : ℕ → StampParts → StampParts
leased_to t s = record { wts = s.wts; rts = max s.rts t; wr = s.wr }
