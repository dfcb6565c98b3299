-- Programs of format 1 perform no swap.
use Rattle.std.specs.Prelude.{◌≡◌, ℕ, zero, suc, ◌⊎◌, true, IsTrue, List, [], ◌∷◌, ◌++◌, Some, slice_get}
use Rattle.std.proofs.Common.{subst, inl, inr}
use Rattle.std.proofs.lemmas.Option.{get_or_from_slice_get, slice_get_within}
use Rattle.std.proofs.lemmas.List.Elements.{All-get_or}
use Rattle.mem_op.specs.Consistency.{Operation, Loaded, Stored, Swapped}
use Rattle.core_program.specs.declared.format.ProgramFormat.TheVariants.{One}
use Rattle.core_program.specs.declared.instruction.Instruction.{Instruction}
use Rattle.core_program.specs.declared.instruction.Instruction.TheVariants.{Swap}
use Rattle.core_program.specs.State.{State, reg}
use Rattle.core_program.specs.Shape.{IsOfFormat, has_instruction}
use Rattle.core_program.specs.Meaning.{Path, stays, loads, stores, stores_register, swaps, adds, skips, goes_on}

-- the format has what stands at a place of its program
has_at : (p : List Instruction) (n : ℕ) (i : Instruction) → IsOfFormat One p → slice_get p n ≡ Some i → has_instruction One i ≡ true
has_at p n i has at =
    subst (λ (j : Instruction). has_instruction One j ≡ true) (get_or_from_slice_get p n i i at)
    (All-get_or (λ j. IsTrue (has_instruction One j)) p n i (slice_get_within p n i at) has)

-- ---- paths

pub snoc_at : (xs : List Operation) (x y : Operation) (i : ℕ) → slice_get (xs ++ x ∷ []) i ≡ Some y → (slice_get xs i ≡ Some y) ⊎ (x ≡ y)
snoc_at [] x y zero e = inr cc
snoc_at [] x y (suc i) e = absurd cc
snoc_at (z ∷ xs) x y zero e = inl e
snoc_at (z ∷ xs) x y (suc i) e = snoc_at xs x y i e

pub path-no_swap : (p : List Instruction) (s t : State) (xs : List Operation) (i addr read stored : ℕ) → IsOfFormat One p → Path p s xs t
    → slice_get xs i ≡ Some (Swapped addr read stored) → ⊥
path-no_swap p s t xs i addr read stored has stays e = cc
path-no_swap p s t xs i addr read stored has (loads done v to a value h n) e = elim (snoc_at done (Loaded a value) (Swapped addr read stored) i e) [
  | inl before ↦ path-no_swap p s v done i addr read stored has h before
  | inr same ↦ cc
]
path-no_swap p s t xs i addr read stored has (stores done v a value h n) e = elim (snoc_at done (Stored a value) (Swapped addr read stored) i e) [
  | inl before ↦ path-no_swap p s v done i addr read stored has h before
  | inr same ↦ cc
]
path-no_swap p s t xs i addr read stored has (stores_register done v a from h n) e = elim (snoc_at done (Stored a (reg v from)) (Swapped addr read stored) i e) [
  | inl before ↦ path-no_swap p s v done i addr read stored has h before
  | inr same ↦ cc
]
path-no_swap p s t xs i addr read stored has (swaps done v to a value word h n) e = let wrong = has_at p v.position (Swap to a value) has n in cc
path-no_swap p s t xs i addr read stored has (adds done v to from value h n) e = path-no_swap p s v done i addr read stored has h e
path-no_swap p s t xs i addr read stored has (skips done v tested skip h n is_zero) e = path-no_swap p s v done i addr read stored has h e
path-no_swap p s t xs i addr read stored has (goes_on done v tested skip h n other) e = path-no_swap p s v done i addr read stored has h e
