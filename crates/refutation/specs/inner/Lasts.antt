-- What the operations of one core store, and where they store words last.
use Rattle.std.specs.Prelude.{◌≡◌, ◌≢◌, ℕ, ◌<◌, ◌≤◌, nat_eq, Bool, ◌&&◌, IsTrue, List, length, Option, Some, IsSomeAnd, slice_get}
use Rattle.std.specs.HashMap.{HashMap, get}
use Rattle.mem_op.specs.Consistency.{Operation, is_store_to, word_left}

-- no operation from one index on and before another stores this word to this address
abbrev pub NoneStoresOf : List Operation → ℕ → ℕ → ℕ → ℕ → Type 0
NoneStoresOf operations from to addr word =
    (index : ℕ) (z : Operation) → slice_get operations index ≡ Some z → from ≤ index → index < to → IsTrue (is_store_to addr z) → word_left z ≢ word

-- each of the first operations that stores this word to this address is at this index or before it
abbrev pub AreUpTo : List Operation → ℕ → ℕ → ℕ → Option ℕ → Type 0
AreUpTo operations n addr word last =
    (index : ℕ) (z : Operation) → index < n → slice_get operations index ≡ Some z → IsTrue (is_store_to addr z) → word_left z ≡ word → IsSomeAnd last (λ l. index ≤ l)

abbrev pub same_pair : ℕ × ℕ → ℕ × ℕ → Bool
same_pair p q = nat_eq p.0 q.0 && nat_eq p.1 q.1

module _ {S : Type 0} where
  -- the map gives such an index for each address and word
  abbrev pub HasLasts : List Operation → ℕ → HashMap (ℕ × ℕ) ℕ S → Type 0
  HasLasts operations n lasts = (addr word : ℕ) → AreUpTo operations n addr word (get same_pair lasts (addr, word))

  -- the same for all operations of each core
  abbrev pub HasLastsOf : List (List Operation) → List (HashMap (ℕ × ℕ) ℕ S) → Type 0
  HasLastsOf cores all =
      (core : ℕ) (operations : List Operation) → slice_get cores core ≡ Some operations → IsSomeAnd (slice_get all core) (HasLasts operations (length operations))
