-- Refutations: lists of steps that close every case.
use Rattle.std.specs.Prelude.{◌≡◌, ℕ, ◌≤◌, List, [], ◌∷◌, ◌++◌, length, map, take, drop}
use Rattle.mem_op.specs.Consistency.{Operation}
use Rattle.refutation.specs.declared.step.Step.{Step}
use Rattle.refutation.specs.declared.fact.Fact.{Fact}
use Rattle.refutation.specs.Rules.{Gives}

-- A case is the list of the facts in force in it. A step splits it: each case that it gives has its own fact last.
abbrev pub split : List Fact → List Fact → List (List Fact)
split facts given = map (λ fact. facts ++ fact ∷ []) given

-- The steps are right, one after the other, and turn the cases into those of `left`. A step speaks of the first case, and the cases that it gives
-- take its place. If it gives none, the first case is closed, and the next is taken up.
abbrev pub Leave : List (List Operation) → List (List Fact) → List Step → List (List Fact) → Type 0
Leave cores cases [] left = cases ≡ left
Leave cores [] (step ∷ steps) left = ⊥
Leave cores (facts ∷ waiting) (step ∷ steps) left =
    (given : List Fact) × Gives cores facts step given × Leave cores (split facts given ++ waiting) steps left

-- the steps start from the one case in which nothing is known, and leave no case
abbrev pub IsRefutation : List (List Operation) → List Step → Type 0
IsRefutation cores steps = Leave cores ([] ∷ []) steps []

-- What is left of the steps can't go on from these cases: no step is left and a case is, or the other way round, or the
-- next step isn't right.
abbrev pub IsStuck : List (List Operation) → List (List Fact) → List Step → Type 0
IsStuck cores [] [] = ⊥
IsStuck cores (facts ∷ waiting) [] = Unit {0}
IsStuck cores [] (step ∷ steps) = Unit {0}
IsStuck cores (facts ∷ waiting) (step ∷ steps) = (given : List Fact) → Gives cores facts step given → ⊥

-- The steps before this place are right, and the steps from there on can't go on. It is the place after the last step if only cases are left.
pub record IsFirstWrong (cores : List (List Operation)) (steps : List Step) (place : ℕ) : Type 0 where
  pub within : place ≤ length steps
  pub left : List (List Fact)
  pub right : Leave cores ([] ∷ []) (take place steps) left
  pub stuck : IsStuck cores left (drop place steps)
