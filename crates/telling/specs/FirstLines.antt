-- The first line of a refutation that is told.
use Rattle.std.specs.Prelude.{◌≡◌, ℕ, List, ◌++◌, codes, length, sum, map}
use Rattle.mem_op.specs.Consistency.{Operation}
use Rattle.decimal_text.specs.Numbers.{numeral}

-- how many operations the cores have
abbrev pub operation_count : List (List Operation) → ℕ
operation_count cores = sum (map length cores)

abbrev pub first_line : ℕ → List ℕ
first_line count = codes "no: no order of " ++ numeral count ++ codes " operations\n"

-- a text, and then more
abbrev pub IsGrown : List ℕ → List ℕ → Type 0
IsGrown text grown = (more : List ℕ) × (grown ≡ text ++ more)

-- a text whose first line says No, with the number of operations
abbrev pub SaysNo : List (List Operation) → List ℕ → Type 0
SaysNo cores text = IsGrown (first_line (operation_count cores)) text
