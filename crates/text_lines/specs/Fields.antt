-- The fields of a line, read from left to right, as functions on its bytes: None where what is looked for isn't there.
use Rattle.std.specs.Prelude.{ℕ, nat_lt, if◌then◌else◌, List, Option, Some, None, is_some}
use Rattle.decimal_text.specs.Reading.{◌>>=◌, after, field_at, last_number}

-- the number, if it is less than this
abbrev pub below : ℕ → ℕ → Option ℕ
below limit n = if nat_lt n limit then Some n else None

-- the number, if it is less than this, and the bytes after it
abbrev pub front_below : ℕ → ℕ × List ℕ → Option (ℕ × List ℕ)
front_below limit x = if nat_lt x.0 limit then Some x else None

-- a number less than this with a space after it, and the bytes after them
unfoldable pub field_below : ℕ → List ℕ → Option (ℕ × List ℕ)
field_below limit bytes = field_at 32 bytes >>= front_below limit

-- a number less than this that is all there is
unfoldable pub last_below : ℕ → List ℕ → Option ℕ
last_below limit bytes = last_number bytes >>= below limit

-- what a reading of the fields makes of a line that begins with this name; of any other line, what another reading makes of it
abbrev pub named : {A : Type 0} → List ℕ → (List ℕ → Option A) → List ℕ → Option A → Option A
named name fields line other = if is_some (after name line) then (after name line >>= fields) else other
