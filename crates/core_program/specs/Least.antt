-- The least number that passes a test.
use Rattle.std.specs.Prelude.{◌≡◌, ℕ, ◌<◌, Bool, true, false, Option, Some, None}

-- the least number that passes, or None if none passes
abbrev pub IsLeastWhere : (ℕ → Bool) → Option ℕ → Type 0
IsLeastWhere passes None = (i : ℕ) → passes i ≡ false
IsLeastWhere passes (Some i) = (passes i ≡ true) × ((j : ℕ) → j < i → passes j ≡ false)
