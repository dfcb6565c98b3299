-- Outcomes counted in an ordered map. Private contracts cite these.
use Rattle.std.specs.Prelude.{◌≡◌, ℕ, ◌+◌, ◌≤◌, if◌then◌else◌, List, [], ◌∷◌, length, map}
use Rattle.std.specs.Global.{Vec}
use Rattle.std.specs.List.{AllByRecursion}
use Rattle.litmus.specs.Outcomes.{is_outcome}
use Rattle.litmus.specs.Collecting.{count_of}

-- outcomes with their counts, in the order of the map
abbrev pub counted : List (Vec ℕ × ℕ) → List (List ℕ × ℕ)
counted entries = map (λ entry. (entry.0.items, entry.1)) entries

-- the count of an outcome, 0 if it isn't there
abbrev pub count_in : List ℕ → List (List ℕ × ℕ) → ℕ
count_in values [] = 0
count_in values (entry ∷ entries) = if is_outcome values entry.0 then entry.1 else count_in values entries

abbrev pub sum_in : List (List ℕ × ℕ) → ℕ
sum_in [] = 0
sum_in (entry ∷ entries) = entry.1 + sum_in entries

-- the map has just these outcomes, each with how often it is there
pub record IsTally (outcomes : List (List ℕ)) (entries : List (Vec ℕ × ℕ)) : Type 0 where
  pub count : (values : List ℕ) → count_in values (counted entries) ≡ count_of values outcomes
  pub sum : sum_in (counted entries) ≡ length outcomes
  pub some : AllByRecursion (λ entry. 1 ≤ entry.1) (counted entries)
