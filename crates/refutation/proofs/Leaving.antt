-- The cases that steps leave, step by step.
use Rattle.std.specs.Prelude.{◌≡◌, ℕ, ◌+◌, ◌<◌, List, [], ◌∷◌, ◌++◌, Option, MatchOption, length, take, nat_lt}
use Rattle.std.specs.Bool.{then_some}
use Rattle.std.proofs.Common.{rules, sym, ◌∙◌, ap, subst, arith, get_or, inl, inr}
use Rattle.std.proofs.lemmas.Bool.{cases_lt, lt-ltb, le-ltb}
use Rattle.std.proofs.lemmas.List.{take_more, drop_more, take_all, take-append-drop}
use Rattle.mem_op.specs.Consistency.{Operation}
use Rattle.refutation.specs.declared.step.Step.{Step}
use Rattle.refutation.specs.declared.step.Step.TheVariants.{Cycle}
use Rattle.refutation.specs.declared.fact.Fact.{Fact}
use Rattle.refutation.specs.Rules.{Gives}
use Rattle.refutation.specs.Refuting.{split, Leave, IsRefutation, IsStuck, IsFirstWrong}

-- ---- steps joined

-- a step more
pub leave-push : (cores : List (List Operation)) (cases : List (List Fact)) (steps : List Step) (facts : List Fact) (others : List (List Fact)) (step : Step) (given : List Fact)
    → Leave cores cases steps (facts ∷ others) → Gives cores facts step given → Leave cores cases (steps ++ step ∷ []) (split facts given ++ others)
leave-push cores [] [] facts others step given none gives = absurd cc
leave-push cores (first ∷ waiting) [] facts others step given same gives = search rules
leave-push cores [] (s ∷ steps) facts others step given wrong gives = absurd wrong
leave-push cores (first ∷ waiting) (s ∷ steps) facts others step given leave gives =
    (leave.0, leave.1, leave-push cores (split first leave.0 ++ waiting) steps facts others step given leave.2 gives)

-- ---- a step gives its cases only

gives-once : (cores : List (List Operation)) (facts : List Fact) (step : Step) (g h : List Fact) → Gives cores facts step g → Gives cores facts step h → g ≡ h
gives-once cores facts step g h a b = search rules

-- so steps leave one list of cases, from which those that come later go on
leave-rest : (cores : List (List Operation)) (cases : List (List Fact)) (steps more : List Step) (left end : List (List Fact)) → Leave cores cases steps left → Leave cores cases (steps ++ more) end → Leave cores left more end
leave-rest cores cases [] more left end same leave = subst (λ (cs : List (List Fact)). Leave cores cs more end) same leave
leave-rest cores [] (s ∷ steps) more left end wrong leave = absurd wrong
leave-rest cores (first ∷ waiting) (s ∷ steps) more left end a b =
    let same = gives-once cores first s a.0 b.0 a.1 b.1 in
    leave-rest cores (split first a.0 ++ waiting) steps more left end a.2 (subst (λ (g : List Fact). Leave cores (split first g ++ waiting) (steps ++ more) end) (sym same) b.2)

stuck-not : (cores : List (List Operation)) (left : List (List Fact)) (steps : List Step) → IsStuck cores left steps → Leave cores left steps [] → ⊥
stuck-not cores left steps stuck leave = search rules

-- what goes wrong somewhere is no refutation
pub wrong_none : (cores : List (List Operation)) (steps : List Step) (place : ℕ) → IsFirstWrong cores steps place → IsRefutation cores steps → ⊥
wrong_none cores steps place wrong is = search (rules, stuck-not, leave-rest, take-append-drop)

-- ---- where the steps are gone through one by one

-- a step that is right
pub right_next : (cores : List (List Operation)) (steps : List Step) (place : ℕ) (facts : List Fact) (others : List (List Fact)) (step : Step)
    → (given : List Fact) → place < length steps → step ≡ get_or steps place step → Leave cores ([] ∷ []) (take place steps) (facts ∷ others)
    → Gives cores facts step given → Leave cores ([] ∷ []) (take (place + 1) steps) (split facts given ++ others)
right_next cores steps place facts others step given within is right gives =
    rw (take_more steps place step within, ← is) (leave-push cores ([] ∷ []) (take place steps) facts others step given right gives)

-- no case is left: the answer is the next step, if there is one
pub answer-after : (cores : List (List Operation)) (steps : List Step) (next : ℕ) (answer : Option ℕ) → Leave cores ([] ∷ []) (take next steps) []
    → answer ≡ then_some (nat_lt next (length steps)) next → MatchOption answer (IsRefutation cores steps) (λ place. IsFirstWrong cores steps place)
answer-after cores steps next answer right told = elim (cases_lt next (length steps)) [
  | inl l ↦ rw (told, lt-ltb next (length steps) l) record { within = omega arith; left = []; right = right; stuck = rw (drop_more steps next (Cycle []) l) tt }
  | inr l ↦ rw (told, le-ltb next (length steps) l) (rw (take_all next steps l) at right)
]
