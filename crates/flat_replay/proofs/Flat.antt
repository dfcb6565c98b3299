-- Operations that have their flat answers, one after another.
use Rattle.std.specs.Prelude.{◌≡◌, ℕ, cond, List, [], ◌∷◌, ◌++◌, ◌⊎◌, refl, length, take, find, Some, slice_get}
use Rattle.std.proofs.Common.{sym, ◌∙◌, ap, subst, inl, inr, arith}
use Rattle.std.proofs.lemmas.Grind.{common_steps}
use Rattle.std.proofs.lemmas.List.{take_at, reverse-append}
use Rattle.std.proofs.lemmas.Option.{gets}
use Rattle.mem_op.specs.Consistency.{Operation, Loaded, Stored, Swapped, is_store_to, word_left, value_or_zero, last_value, GivesFlatAnswers}
use Rattle.flat_replay.specs.Memory.{IsAnsweredBy, after}

last_value-push : (addr : ℕ) (xs : List Operation) (y : Operation) → last_value addr (xs ++ y ∷ []) ≡ cond (is_store_to addr y) (word_left y) (last_value addr xs)
last_value-push addr xs y = ap (λ l. value_or_zero (find (is_store_to addr) l)) (reverse-append xs (y ∷ [])) ∙ grind arith

-- an operation leaves at an address its last value
pub after_is : (y : Operation) (memory : ℕ → ℕ) (before : List Operation) (addr : ℕ) → memory addr ≡ last_value addr before → after y memory addr ≡ last_value addr (before ++ y ∷ [])
after_is y memory before addr h = let pushed = last_value-push addr before y in grind arith

-- an operation finds the same in memories that are alike
pub answered : (y : Operation) (m n : ℕ → ℕ) → ((addr : ℕ) → m addr ≡ n addr) → IsAnsweredBy m y → IsAnsweredBy n y
answered (Loaded a v) m n same h = h ∙ same a
answered (Stored a v) m n same h = tt
answered (Swapped a r v) m n same h = h ∙ same a

-- an operation behind these has its flat answer
abbrev pub IsAnsweredBehind : List Operation → Operation → Type 0
IsAnsweredBehind before y = IsAnsweredBy (λ addr. last_value addr before) y

-- flat answers, operation by operation
pub flat_each : (xs : List Operation) → ((k : ℕ) (y : Operation) → slice_get xs k ≡ Some y → IsAnsweredBehind (take k xs) y) → GivesFlatAnswers xs
flat_each xs h = record {
  loads = λ k addr value e. h k (Loaded addr value) e;
  swaps = λ k addr read stored e. h k (Swapped addr read stored) e;
}

flat_at : (xs : List Operation) → GivesFlatAnswers xs → (k : ℕ) (y : Operation) → slice_get xs k ≡ Some y → IsAnsweredBehind (take k xs) y
flat_at xs h k (Loaded addr value) e = h.loads k addr value e
flat_at xs h k (Stored addr value) e = tt
flat_at xs h k (Swapped addr read stored) e = h.swaps k addr read stored e

pub flat_at_middle : (xs : List Operation) (y : Operation) (ys : List Operation) → GivesFlatAnswers (xs ++ y ∷ ys) → IsAnsweredBehind xs y
flat_at_middle xs y ys h = subst (λ before. IsAnsweredBehind before y) (take_at xs (y ∷ ys) (length xs) refl) (flat_at (xs ++ y ∷ ys) h (length xs) y (grind (arith, common_steps, gets)))

pub flat_push : (xs : List Operation) (y : Operation) → GivesFlatAnswers xs → IsAnsweredBehind xs y → GivesFlatAnswers (xs ++ y ∷ [])
flat_push xs y h g = flat_each (xs ++ y ∷ []) (λ k z e. elim (places k z e) [
  | inl r ↦ subst (λ before. IsAnsweredBehind before z) (sym r.1) (flat_at xs h k z r.0)
  | inr r ↦ subst (λ before. IsAnsweredBehind before z) (sym r.1) (subst (IsAnsweredBehind xs) r.0 g)
])
  where
    -- what stands at a place stood there before, or is the one added
    places : (k : ℕ) (z : Operation) → slice_get (xs ++ y ∷ []) k ≡ Some z → ((slice_get xs k ≡ Some z) × (take k (xs ++ y ∷ []) ≡ take k xs)) ⊎ ((y ≡ z) × (take k (xs ++ y ∷ []) ≡ xs))
    places k z e = grind (arith, common_steps, gets)
