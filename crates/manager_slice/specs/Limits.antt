-- Limits of what is written down.
use Rattle.std.specs.Prelude.{ℕ}

-- the most entries of a history or of a transcript
abbrev pub entry_limit : ℕ
entry_limit = 1048576
