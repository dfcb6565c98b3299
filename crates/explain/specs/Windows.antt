-- What stands around a place.
use Rattle.std.specs.Prelude.{ℕ, ◌+◌, ◌-◌, List, length, min, slice_range}

-- how many places are told to each side
abbrev pub reach : ℕ
reach = 8

-- the first place that is told
abbrev pub window_start : ℕ → ℕ
window_start place = place - reach

-- the place after the last that is told
abbrev pub window_end : {X : Type 0} → List X → ℕ → ℕ
window_end xs place = min (place + reach + 1) (length xs)

-- the elements around a place
abbrev pub window : {X : Type 0} → List X → ℕ → List X
window xs place = slice_range xs (window_start place) (window_end xs place)
