-- What devices tell: their bytes, and how often they failed.
use Rattle.std.specs.Prelude.{◌≡◌, ℕ, ◌+◌, ◌-◌, ◌^◌, ◌<◌, ◌≤◌, ◌⊎◌, min, List, Option, None, Some, Result, MatchResult, OnOk, length, take}
use Rattle.std.specs.Io.KnownBytes.{Appends}

-- only an Err changes the count of failures: it adds 1, but the largest count stays
abbrev pub CountsFailure : {T E : Type 0} → ℕ → ℕ → Result T E → Type 0
CountsFailure old new r = MatchResult r (λ _. new ≡ old) (λ _. new ≡ min (old + 1) (2 ^ 64 - 1))

-- the device failed: the count rose, or is the largest
abbrev pub Failed : ℕ → ℕ → Type 0
Failed old new = (old < new) ⊎ (new ≡ 2 ^ 64 - 1)

-- a failure is told only if the device failed, and if none is told, the count stays
abbrev pub TellsFailure : Type 0 → ℕ → ℕ → Type 0
TellsFailure told old new = (told → Failed old new) × (¬ told → new ≡ old)

-- the sink took a beginning of the text
abbrev pub TakesBeginning : Option (List ℕ) → Option (List ℕ) → List ℕ → Type 0
TakesBeginning old new text = (n : ℕ) × (n ≤ length text) × Appends old new (take n text)

-- the sink took a beginning of the text, and all of it if the answer is Ok
abbrev pub Writes : {T E : Type 0} → Option (List ℕ) → Option (List ℕ) → List ℕ → Result T E → Type 0
Writes old new text r = TakesBeginning old new text × OnOk r (Appends old new text)

-- the bytes are those that the source told, if it told any
abbrev pub Tells : Option (List ℕ) → List ℕ → Type 0
Tells None bytes = Unit {0}
Tells (Some told) bytes = told ≡ bytes
