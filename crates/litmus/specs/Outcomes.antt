-- Outcomes, and those that a test forbids.
use Rattle.std.specs.Prelude.{ℕ, Bool, List, nat_eq}
use Rattle.std.specs.Cmp.Lexicographic.{pointwise}
use Rattle.std.specs.List.{list_any}
use Rattle.litmus.specs.Parts.{LitmusParts}

abbrev pub is_outcome : List ℕ → List ℕ → Bool
is_outcome values other = pointwise nat_eq values other

-- a test forbids an outcome that it names
abbrev pub is_forbidden : LitmusParts → List ℕ → Bool
is_forbidden t values = list_any (is_outcome values) t.forbidden
