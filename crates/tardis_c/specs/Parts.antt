-- The logs that lie one after the other in a buffer of bytes or of operations.
use Rattle.std.specs.Prelude.{◌≡◌, ℕ, ◌≤◌, List, [], ◌∷◌, length, slice_range}

-- from here on no end is less than the one before it, and the last is the length
abbrev pub AreEndsFrom : ℕ → ℕ → List ℕ → Type 0
AreEndsFrom from many [] = from ≡ many
AreEndsFrom from many (end ∷ ends) = (from ≤ end) × AreEndsFrom end many ends

-- logs with these ends fill the buffer
abbrev pub AreEnds : {X : Type 0} → List X → List ℕ → Type 0
AreEnds buffer ends = AreEndsFrom 0 (length buffer) ends

-- each log begins where the one before it ends, the first here
abbrev pub parts_from : {X : Type 0} → ℕ → List X → List ℕ → List (List X)
parts_from from buffer [] = []
parts_from from buffer (end ∷ ends) = slice_range buffer from end ∷ parts_from end buffer ends

-- the logs in the buffer
abbrev pub parts_of : {X : Type 0} → List X → List ℕ → List (List X)
parts_of buffer ends = parts_from 0 buffer ends
