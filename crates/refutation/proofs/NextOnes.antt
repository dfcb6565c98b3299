-- The next operations of cores, one core after the other, and where they lead.
use Rattle.std.specs.Prelude.{◌≡◌, ℕ, ◌+◌, ◌≤◌, Bool, true, false, MatchBool, List, refl, Option, Some, None, length, ◌&&◌, IsTrue, slice_index, slice_set}
use Rattle.std.specs.List.{list_all}
use Rattle.std.proofs.Common.{rules, sym, arith}
use Rattle.std.proofs.lemmas.Bool.{and_from}
use Rattle.mem_op.specs.Consistency.{Operation, operation_at, word_left}
use Rattle.mem_op.specs.declared.id.OpId.{OpId}
use Rattle.flat_replay.proofs.Turns.{within_cores}
use Rattle.flat_replay.specs.Accesses.{address_of}
use Rattle.refutation.specs.States.{next_id, word_of, put_word, fits, allows, next_of, words_of, IsIn, Waits, IsRightState}
use Rattle.refutation.specs.declared.fact.Fact.{Fact}
use Rattle.refutation.specs.declared.state.State.{State}
use Rattle.refutation.proofs.Firsts.{First, first_more, first-skip}

module _ (cores : List (List Operation)) (numbers : List ℕ) (P : ℕ → Operation → Type 0) where
  -- the operation of a core at its number
  abbrev pub there : ℕ → Option Operation
  there core = operation_at cores (next_id numbers core)

  -- some core has one
  abbrev pub HasOne : Type 0
  HasOne = (core : ℕ) × (y : Operation) × (there core ≡ Some y)

  abbrev pub Each : Type 0
  Each = (core : ℕ) (y : Operation) → there core ≡ Some y → P core y

  -- what is known of the first cores: whether one of them has an operation at its number, and that P holds of each that has
  pub record FirstOnes (is_one : Bool) (n : ℕ) : Type 0 where
    pub some : is_one ≡ true → HasOne
    pub none : is_one ≡ false → First (λ core y. ⊥) there n
    pub each : First P there n

  -- one core more, without an operation there
  pub ones-skip : {is_one : Bool} {n : ℕ} → FirstOnes is_one n → there n ≡ None → FirstOnes is_one (n + 1)
  ones-skip first nothing = search (rules, first-skip)

  -- what is known of all cores
  pub ones-told : {R : Type 0} (is_one : Bool) (n : ℕ) → length cores ≤ n → FirstOnes is_one n → (HasOne → Each → R) → (R → HasOne) → MatchBool is_one R (R → ⊥)
  ones-told true n l first make has = make (first.some refl) (λ core y at. first.each core y (let m = within_cores cores (next_id numbers core) y (sym at) in omega arith) at)
  ones-told false n l first make has = λ r. (
      let one = has r in
      first.none refl one.0 one.1 (let m = within_cores cores (next_id numbers one.0) one.1 (sym one.2) in omega arith) one.2)

-- ---- dead states, and moves that lead back

-- the limit of a core that has an operation there
abbrev pub StopsAt : List (List Operation) → List ℕ → List ℕ → List ℕ → List ℕ → ℕ → Operation → Type 0
StopsAt cores addresses next words limits core y = (slice_index next core ≤ slice_index limits core) × Waits cores addresses next words limits y

module _ (cores : List (List Operation)) (facts : List Fact) (addresses : List ℕ) where
  -- the move of a core leads into a set, where it may be performed
  abbrev pub LeadsInto : (List ℕ → List ℕ → Type 0) → State → ℕ → Operation → Type 0
  LeadsInto InSet state core y =
      IsTrue (fits (word_of addresses (words_of state) (address_of y)) y) → IsTrue (list_all (allows (next_of state) (next_id (next_of state) core)) facts)
      → IsIn cores addresses InSet (slice_set (next_of state) core (slice_index (next_of state) core + 1)) (put_word addresses (words_of state) (address_of y) (word_left y))

  -- one core more, whose move does
  pub leads-more : (InSet : List ℕ → List ℕ → Type 0) (state : State) {is_left : Bool} {n : ℕ} (id : OpId) (y : Operation)
      → FirstOnes cores (next_of state) (LeadsInto InSet state) is_left n → id ≡ next_id (next_of state) n → operation_at cores (next_id (next_of state) n) ≡ Some y
      → ((fits (word_of addresses (words_of state) (address_of y)) y && list_all (allows (next_of state) id) facts) ≡ true
      → IsIn cores addresses InSet (slice_set (next_of state) id.core (id.index + 1)) (put_word addresses (words_of state) (address_of y) (word_left y)))
      → FirstOnes cores (next_of state) (LeadsInto InSet state) true (n + 1)
  leads-more InSet state id y first is there leads = search (rules, first_more, and_from)

  -- a state is right in a larger set
  pub right-in-other : (One Other : List ℕ → List ℕ → Type 0) → ((next words : List ℕ) → One next words → Other next words) → (state : State)
      → IsRightState cores facts addresses One state → IsRightState cores facts addresses Other state
  right-in-other One Other same state right = search rules
