-- How much of a text a sink took.
use Rattle.std.specs.Prelude.{◌≡◌, ◌≢◌, ℕ, List, [], ◌++◌, Option, Result, OnOk, OnErr}
use Rattle.std.specs.Io.KnownBytes.{Appends}

-- The sink took a beginning of the text. If the call succeeded, the rest is kept; if it failed, the sink didn't take all.
abbrev pub IsWritten : {E : Type 0} → Option (List ℕ) → Option (List ℕ) → List ℕ → Result (Unit {0}) E → List ℕ → Type 0
IsWritten old new text r kept =
    (part : List ℕ) × ((rest : List ℕ) × Appends old new part × (part ++ rest ≡ text) × OnOk r (rest ≡ kept) × OnErr r (rest ≢ []))
