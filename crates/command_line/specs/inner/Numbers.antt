-- The options that take a number, in any subcommand.
use Rattle.std.specs.Prelude.{◌≡◌, IsTrue, Bool, List, [], ◌∷◌, Some, codes}
use Rattle.std.specs.List.{list_any}
use Rattle.std.specs.Str.{bytes_eq}
use Rattle.clap.specs.Words.{Row, Text, one_of}
use Rattle.command_line.specs.Asking.{IsNumber}

abbrev pub number_names : List Text
number_names =
    codes "workers" ∷ codes "slices" ∷ codes "lease" ∷ codes "period" ∷ codes "cache" ∷ codes "slice-lines" ∷ codes "inbox" ∷ codes "runs" ∷ codes "seed"
    ∷ codes "stress" ∷ codes "budget" ∷ []

abbrev pub takes_number : Text → Bool
takes_number name = list_any (bytes_eq name) number_names

-- each that is there has a number
abbrev pub HasNumbers : List Row → Type 0
HasNumbers rows = (name text : Text) → IsTrue (takes_number name) → one_of name rows ≡ Some text → IsNumber text
