-- Where a fault is: what each telling of a fault begins with.
use Rattle.std.specs.Prelude.{ℕ, List, ◌++◌, codes}
use Rattle.std.specs.Fmt.{decimal}

-- the file's name and the number of the line
abbrev pub place_text : List ℕ → ℕ → List ℕ
place_text file line = file ++ (codes " line " ++ (decimal line ++ codes ": "))
