-- Limits.
use Rattle.std.specs.Prelude.{ℕ}

-- the most operations that a core may have
abbrev pub operation_limit : ℕ
operation_limit = 1048576
