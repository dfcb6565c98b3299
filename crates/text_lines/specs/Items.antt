-- Texts of items, each a line. An item has a text, and only some items may stand in a text.
use Rattle.std.specs.Prelude.{◌≡◌, ◌≢◌, ℕ, ◌+◌, List, [], ◌∷◌, ◌++◌, length, map}
use Rattle.std.specs.List.{AllByRecursion}
use Rattle.text_lines.specs.Lines.{text_of}

-- the lines of items, each with its line feed
abbrev pub lines_of : {A : Type 0} → (A → List ℕ) → List A → List ℕ
lines_of text items = text_of (map text items)

-- the bytes are the lines of these items
abbrev pub SpellsItems : {A : Type 0} → (A → List ℕ) → (A → Type 0) → List ℕ → List A → Type 0
SpellsItems text Fits bytes items = AllByRecursion Fits items × (bytes ≡ lines_of text items)

-- the bytes begin with an item's line, and these come after it
abbrev pub ItemInFront : {A : Type 0} → (A → List ℕ) → (A → Type 0) → A → List ℕ → List ℕ → Type 0
ItemInFront text Fits x bytes rest = Fits x × (bytes ≡ text x ++ 10 ∷ rest)

-- the bytes don't begin with an item's line
abbrev pub NoItemInFront : {A : Type 0} → (A → List ℕ) → (A → Type 0) → List ℕ → Type 0
NoItemInFront {A} text Fits bytes = (x : A) (rest : List ℕ) → ItemInFront text Fits x bytes rest → ⊥

-- Line k, counted from 1, is the first that isn't an item's: before it come the lines of items, and where it begins there are
-- bytes, but no item's line.
pub record IsFirstBad {A : Type 0} (text : A → List ℕ) (Fits : A → Type 0) (bytes : List ℕ) (k : ℕ) : Type 0 where
  pub before : List A
  pub each_fits : AllByRecursion Fits before
  pub rest : List ℕ
  pub is_text : bytes ≡ lines_of text before ++ rest
  pub some : rest ≢ []
  pub none_in_front : NoItemInFront text Fits rest
  pub line : k ≡ length before + 1
