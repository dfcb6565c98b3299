-- The case that is looked at and those that wait, as the code keeps them.
use Rattle.std.specs.Prelude.{ℕ, ◌≤◌, List, [], ◌∷◌, ◌++◌, map, take, reverse}
use Rattle.refutation.specs.declared.cases.Waiting.{Waiting}
use Rattle.refutation.specs.declared.fact.Fact.{Fact}

-- a list of one case or more: the facts in force in the first, and in each of the others
pub record CaseList : Type 0 where
  pub facts : List Fact
  pub others : List (List Fact)

-- the facts in force in each case that waits; the last that is kept is the first of them
abbrev pub cases_of : List Fact → List Waiting → List (List Fact)
cases_of facts waiting = map (λ w. take w.kept facts ++ w.fact ∷ []) (reverse waiting)

-- each keeps no more facts than the one before it
abbrev pub AreNested : ℕ → List Waiting → Type 0
AreNested n [] = Unit {0}
AreNested n (w ∷ ws) = (w.kept ≤ n) × AreNested w.kept ws

-- a case that waits with this fact
abbrev pub waiting_on : ℕ → Fact → Waiting
waiting_on kept fact = record { kept = kept; fact = fact }
