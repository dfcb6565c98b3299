-- The names of logs.
use Rattle.std.specs.Prelude.{◌≡◌, ◌<◌, ℕ, List, ◌++◌, codes}
use Rattle.std.specs.Fmt.{decimal}

-- the name of core c's log: that of the logs, a dot and the core's number
abbrev pub log_name : List ℕ → ℕ → List ℕ
log_name out c = out ++ (codes "." ++ decimal c)

-- a name that a run may give to a log
abbrev pub IsLogName : List ℕ → List ℕ → Type 0
IsLogName out name = (c : ℕ) × (c < 64) × (name ≡ log_name out c)
