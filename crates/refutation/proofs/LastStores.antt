-- Where cores store words last, one operation after the other.
use Rattle.std.specs.Prelude.{◌≡◌, ℕ, ◌+◌, ◌<◌, false, cond, List, [], ◌∷◌, ◌++◌, length, Some, IsSomeAnd, slice_get}
use Rattle.std.specs.HashMap.{HashMap, get}
use Rattle.std.proofs.Common.{rules, arith, length-append}
use Rattle.std.proofs.lemmas.Grind.{common_steps}
use Rattle.std.proofs.lemmas.Bool.{cases_Bool}
use Rattle.std.proofs.lemmas.Option.{gets}
use Rattle.mem_op.specs.Consistency.{Operation, is_store_to, word_left}
use Rattle.flat_replay.specs.Accesses.{address_of}
use Rattle.refutation.specs.inner.Lasts.{HasLasts, same_pair}
use Rattle.refutation.proofs.Firsts.{First, first_more}
use Rattle.refutation.proofs.Runs.{store-address}

module _ {S : Type 0} (operations : List Operation) (n : ℕ) (y : Operation) (here : slice_get operations n ≡ Some y) where
  -- one that stores nothing
  pub lasts-same : (lasts : HashMap (ℕ × ℕ) ℕ S) → HasLasts operations n lasts → is_store_to (address_of y) y ≡ false → HasLasts operations (n + 1) lasts
  lasts-same lasts has none = search (rules, first_more, store-address)

  -- one that stores, and is the last now
  pub lasts-more : (old new : HashMap (ℕ × ℕ) ℕ S) → HasLasts operations n old
      → ((q : ℕ × ℕ) → get same_pair new q ≡ cond (same_pair (address_of y, word_left y) q) (Some n) (get same_pair old q)) → HasLasts operations (n + 1) new
  lasts-more old new has updated addr word = search (rules, first_more, store-address, cases_Bool)

-- ---- core by core

module _ {S : Type 0} where
  -- the first cores
  abbrev pub HasLastsOfFirst : List (List Operation) → ℕ → List (HashMap (ℕ × ℕ) ℕ S) → Type 0
  HasLastsOfFirst cores n all = (length all ≡ n) × First (λ core own. IsSomeAnd (slice_get all core) (HasLasts own (length own))) (slice_get cores) n

  pub first-lasts : (cores : List (List Operation)) (n : ℕ) (all : List (HashMap (ℕ × ℕ) ℕ S)) (operations : List Operation) (lasts : HashMap (ℕ × ℕ) ℕ S)
      → slice_get cores n ≡ Some operations → HasLastsOfFirst cores n all → HasLasts operations (length operations) lasts → HasLastsOfFirst cores (n + 1) (all ++ lasts ∷ [])
  first-lasts cores n all operations lasts found first has = (
    omega (arith, first.0, length-append all (lasts ∷ [])),
    first_more (λ core own. IsSomeAnd (slice_get (all ++ lasts ∷ []) core) (HasLasts own (length own))) (slice_get cores) operations found
        (λ core own l at. rw (before core (omega (arith, first.0))) (first.1 core own l at)) (rw (last n (omega (arith, first.0))) has),
  )
    where
      before : (k : ℕ) → k < length all → slice_get (all ++ lasts ∷ []) k ≡ slice_get all k
      before k l = grind (arith, common_steps, gets)

      last : (k : ℕ) → k ≡ length all → slice_get (all ++ lasts ∷ []) k ≡ Some lasts
      last k l = grind (arith, common_steps, gets)
