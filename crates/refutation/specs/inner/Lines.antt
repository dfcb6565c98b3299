-- What is read of a text.
use Rattle.std.specs.Prelude.{◌≡◌, ℕ, ◌⊎◌, List, length, Option, Some, None}
use Rattle.refutation.specs.declared.text.Front.{Front}
use Rattle.refutation.specs.Grammar.{end_line}
use Rattle.refutation.specs.Texts.{Begins, EndsBadly, LacksHeader}

-- how the text goes on after the lines of this many steps
abbrev pub TellsEnd : List ℕ → ℕ → Option ℕ → Type 0
TellsEnd rest count None = rest ≡ end_line count
TellsEnd rest count (Some line) = EndsBadly rest count line

-- the steps at the front of a text, and the first line that isn't of the shape
abbrev pub TellsText : List ℕ → Front → Type 0
TellsText bytes read = ((read.bad_line ≡ Some 1) × LacksHeader bytes 1) ⊎ ((rest : List ℕ) × Begins bytes read.steps.items rest × TellsEnd rest (length read.steps.items) read.bad_line)
