-- Closed sets of states. A state says how far each core is, and what memory holds at the addresses that are looked at. A set that has the first
-- state, is closed under every move, and has no state in which all is done shows that no order exists.
use Rattle.std.specs.Prelude.{◌≡◌, ◌≢◌, ℕ, ◌+◌, ◌<◌, ◌≤◌, nat_lt, nat_eq, Bool, true, false, ◌==◌, ◌&&◌, ◌||◌, if◌then◌else◌, IsTrue, List, [], ◌∷◌, Option, Some, None, is_none, map, drop, slice_get, slice_index, slice_set}
use Rattle.std.specs.List.{list_all, prefix_len}
use Rattle.std.specs.Option.{option_eq}
use Rattle.mem_op.specs.declared.id.OpId.{OpId}
use Rattle.mem_op.specs.Consistency.{Operation, operation_at, is_store_to, word_left}
use Rattle.flat_replay.specs.Accesses.{address_of, word_read}
use Rattle.refutation.specs.declared.step.Point.{Point}
use Rattle.refutation.specs.declared.step.Point.TheVariants.{Init, At}
use Rattle.refutation.specs.declared.state.State.{State}
use Rattle.refutation.specs.declared.state.State.TheVariants.{Open, Dead}
use Rattle.refutation.specs.declared.fact.Fact.{Fact}
use Rattle.refutation.specs.Facts.{earlier_of, later_of}
use Rattle.refutation.specs.Grammar.{is_same_point}

-- ---- words

-- the word at an address, if the address is looked at: each that is looked at has its word
abbrev pub word_of : List ℕ → List ℕ → ℕ → Option ℕ
word_of [] words addr = None
word_of (a ∷ addresses) [] addr = None
word_of (a ∷ addresses) (w ∷ words) addr = if a == addr then Some w else word_of addresses words addr

-- the words, after one is put at an address
abbrev pub put_word : List ℕ → List ℕ → ℕ → ℕ → List ℕ
put_word [] words addr word = words
put_word (a ∷ addresses) [] addr word = []
put_word (a ∷ addresses) (w ∷ words) addr word = if a == addr then word ∷ words else w ∷ put_word addresses words addr word

-- an operation is looked at, and reads no word or the one that is there
abbrev pub fits : Option ℕ → Operation → Bool
fits None y = false
fits (Some word) y = is_none (word_read y) || option_eq nat_eq (word_read y) (Some word)

-- an operation isn't looked at, or reads the word that is there and leaves it
abbrev pub passes : Option ℕ → Operation → Bool
passes None y = true
passes (Some word) y = option_eq nat_eq (word_read y) (Some word) && (word_left y == word)

-- ---- states

-- the index of each core's next operation, once every operation that passes has been performed
abbrev pub settled : List ℕ → List ℕ → List (List Operation) → List ℕ → List ℕ
settled addresses words [] next = next
settled addresses words (operations ∷ cores) [] = []
settled addresses words (operations ∷ cores) (n ∷ next) =
    (n + prefix_len (λ y. passes (word_of addresses words (address_of y)) y) (drop n operations)) ∷ settled addresses words cores next

abbrev pub next_of : State → List ℕ
next_of (Open next words) = next
next_of (Dead next words limits) = next

abbrev pub words_of : State → List ℕ
words_of (Open next words) = words
words_of (Dead next words limits) = words

-- the set has the state of these indices and words
pub record Has (states : List State) (next words : List ℕ) : Type 0 where
  pub number : ℕ
  pub state : State
  pub there : slice_get states number ≡ Some state
  pub next_is : next_of state ≡ next
  pub words_is : words_of state ≡ words

-- the set has this state, once every operation that passes has been performed
abbrev pub IsIn : List (List Operation) → List ℕ → (List ℕ → List ℕ → Type 0) → List ℕ → List ℕ → Type 0
IsIn cores addresses InSet next words = InSet (settled addresses words cores next) words

-- ---- moves

-- a core's next operation
abbrev pub next_id : List ℕ → ℕ → OpId
next_id next core = record { core = core; index = slice_index next core }

abbrev pub was_performed : List ℕ → Point → Bool
was_performed next Init = true
was_performed next (At id) = nat_lt id.index (slice_index next id.core)

-- the fact lets this operation come next: if it says that a point is before the operation, that point was performed
abbrev pub allows : List ℕ → OpId → Fact → Bool
allows next id fact = if is_same_point (later_of fact) (At id) then was_performed next (earlier_of fact) else true

-- some core has an operation left, and each operation that a core may perform next leads into the set
pub record LeadsBack (cores : List (List Operation)) (facts : List Fact) (addresses : List ℕ) (InSet : List ℕ → List ℕ → Type 0) (next words : List ℕ) : Type 0 where
  pub left : (core : ℕ) × (y : Operation) × (operation_at cores (next_id next core) ≡ Some y)
  pub back : (core : ℕ) (y : Operation) → operation_at cores (next_id next core) ≡ Some y
      → IsTrue (fits (word_of addresses words (address_of y)) y) → IsTrue (list_all (allows next (next_id next core)) facts)
      → IsIn cores addresses InSet (slice_set next core (slice_index next core + 1)) (put_word addresses words (address_of y) (word_left y))

-- ---- dead states

-- no operation from these indices on and before the limits stores this word to this address
abbrev pub NoneStores : List (List Operation) → List ℕ → List ℕ → ℕ → ℕ → Type 0
NoneStores cores next limits addr word =
    (id : OpId) (z : Operation) → operation_at cores id ≡ Some z → slice_index next id.core ≤ id.index → id.index < slice_index limits id.core
    → IsTrue (is_store_to addr z) → word_left z ≢ word

-- a read that waits: another word is there, and no operation stores its word before the limits
pub record Waits (cores : List (List Operation)) (addresses next words limits : List ℕ) (y : Operation) : Type 0 where
  pub value : ℕ
  pub reads : word_read y ≡ Some value
  pub word : ℕ
  pub there : word_of addresses words (address_of y) ≡ Some word
  pub other : value ≢ word
  pub none : NoneStores cores next limits (address_of y) value

-- Each core that has an operation at its limit hasn't got past it, and that operation waits; some core has one. So none of these operations can be
-- the first to be performed.
pub record IsDead (cores : List (List Operation)) (addresses next words limits : List ℕ) : Type 0 where
  pub some : (core : ℕ) × (y : Operation) × (operation_at cores (next_id limits core) ≡ Some y)
  pub each : (core : ℕ) (y : Operation) → operation_at cores (next_id limits core) ≡ Some y
      → (slice_index next core ≤ slice_index limits core) × Waits cores addresses next words limits y

-- ---- closed sets

-- each move from an open state leads back into the set; a dead state leads to no end
abbrev pub IsRightState : List (List Operation) → List Fact → List ℕ → (List ℕ → List ℕ → Type 0) → State → Type 0
IsRightState cores facts addresses InSet (Open next words) = LeadsBack cores facts addresses InSet next words
IsRightState cores facts addresses InSet (Dead next words limits) = IsDead cores addresses next words limits

-- the set has the first state, in which nothing was performed and all words are 0, and each of its states is right
pub record IsClosedSet (cores : List (List Operation)) (facts : List Fact) (addresses : List ℕ) (states : List State) : Type 0 where
  pub first : IsIn cores addresses (Has states) (map (λ _. 0) cores) (map (λ _. 0) addresses)
  pub each : (number : ℕ) (state : State) → slice_get states number ≡ Some state → IsRightState cores facts addresses (Has states) state
