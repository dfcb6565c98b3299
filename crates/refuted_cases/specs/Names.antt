-- Which bytes name addresses: a line for each, with its number, a space and its name.
use Rattle.std.specs.Prelude.{◌≡◌, ℕ, ◌<◌, ◌^◌, nat_le, ◌==◌, Bool, true, false, ◌&&◌, not, List, [], ◌∷◌, ◌++◌, Option, Some, None, length, map, if◌then◌else◌}
use Rattle.std.specs.Char.{is_ascii_digit, is_ascii_graphic}
use Rattle.std.specs.Global.{Vec}
use Rattle.std.specs.List.{list_all}
use Rattle.decimal_text.specs.Numbers.{numeral}
use Rattle.text_lines.specs.Items.{SpellsItems, ItemInFront, NoItemInFront, IsFirstBad}
use Rattle.refuted_cases.specs.declared.names.Names.{Names}
use Rattle.refuted_cases.specs.declared.names.NamesFault.{NamesFault}
use Rattle.refuted_cases.specs.declared.names.NamesFault.TheVariants.{BadLine, OutOfMemory}

-- 1 to 64 bytes, each printable ASCII and no space; a number begins with a digit, and no name does
unfoldable pub is_name : List ℕ → Bool
is_name [] = false
is_name (b ∷ bs) = not (is_ascii_digit b) && (nat_le (length (b ∷ bs)) 64 && list_all is_ascii_graphic (b ∷ bs))

-- an address with its name, as a line has them
abbrev pub line_text : ℕ × List ℕ → List ℕ
line_text row = numeral row.0 ++ 32 ∷ row.1

abbrev pub Fits : ℕ × List ℕ → Type 0
Fits row = (row.0 < 2 ^ 64) × (is_name row.1 ≡ true)

-- the addresses with their names, line by line
abbrev pub row_of : ℕ × Vec ℕ → ℕ × List ℕ
row_of row = (row.0, row.1.items)

abbrev pub rows_of : Names → List (ℕ × List ℕ)
rows_of names = map row_of names.rows.items

-- the bytes are the lines of these names
abbrev pub SpellsNames : List ℕ → Names → Type 0
SpellsNames bytes names = SpellsItems line_text Fits bytes (rows_of names)

abbrev pub RowInFront : ℕ × List ℕ → List ℕ → List ℕ → Type 0
RowInFront row bytes rest = ItemInFront line_text Fits row bytes rest

abbrev pub NoRowInFront : List ℕ → Type 0
NoRowInFront bytes = NoItemInFront line_text Fits bytes

-- why bytes name no addresses: the first line that isn't as it should be, or lack of memory
abbrev pub IsFault : List ℕ → NamesFault → Type 0
IsFault bytes (BadLine k) = IsFirstBad line_text Fits bytes k
IsFault bytes OutOfMemory = Unit {0}

-- the name on the first line of an address, if it has one
abbrev pub name_at : List (ℕ × List ℕ) → ℕ → Option (List ℕ)
name_at [] address = None
name_at (row ∷ rows) address = if row.0 == address then Some row.1 else name_at rows address
