-- Pictures.
use Rattle.std.specs.Prelude.{◌≡◌, ℕ, List, ◌++◌, codes}

-- what each picture begins with, and what it ends with
abbrev pub head : List ℕ
head = codes "<svg "

abbrev pub foot : List ℕ
foot = codes "</svg>\n"

-- a text that begins and ends as each picture does
abbrev pub IsPicture : List ℕ → Type 0
IsPicture text = (parts : List ℕ) × (text ≡ head ++ parts ++ foot)
