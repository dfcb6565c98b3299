-- States: words put, and how far cores come by operations that pass.
use Rattle.std.specs.Prelude.{◌≡◌, ◌≢◌, ℕ, zero, suc, ◌+◌, ◌-◌, ◌<◌, ◌≤◌, ◌⊎◌, Bool, true, false, ◌==◌, List, [], ◌∷◌, refl, Option, None, Some, map, length, take, drop, slice_get, slice_index, slice_set, option_and_then}
use Rattle.std.specs.List.{position_from, prefix_len}
use Rattle.std.specs.Option.{option_map}
use Rattle.std.proofs.Common.{rules, ap, arith}
use Rattle.std.proofs.lemmas.Bool.Decides.{nat_tests}
use Rattle.std.proofs.lemmas.List.{get_or-drop, length-drop}
use Rattle.std.proofs.lemmas.List.Sums.{prefix_len_passes, prefix_len_stops}
use Rattle.std.proofs.lemmas.Option.{slice_get_within, get_or_from_slice_get, option_and_then_some, same_Some}
use Rattle.mem_op.specs.declared.id.OpId.{OpId}
use Rattle.mem_op.specs.Consistency.{Operation, operation_at, word_left}
use Rattle.flat_replay.specs.Accesses.{address_of, word_read}
use Rattle.flat_replay.specs.Memory.{IsAnsweredBy, after}
use Rattle.refutation.specs.States.{word_of, put_word, passes, settled, next_id}
use Rattle.refutation.proofs.Runs.{after-here, after-idle}

-- ---- words

pub word-put : (addresses words : List ℕ) (a b v w : ℕ) → word_of addresses (put_word addresses words a v) b ≡ Some w → ((a ≡ b) × (w ≡ v)) ⊎ ((a ≢ b) × (word_of addresses words b ≡ Some w))
word-put [] words a b v w e = absurd cc
word-put (x ∷ addresses) [] a b v w e = absurd cc
word-put (x ∷ addresses) (u ∷ words) a b v w e = let later = word-put addresses words a b v w in grind (arith, nat_tests)

-- the words that an operation leaves
abbrev pub words_after : List ℕ → List ℕ → Operation → List ℕ
words_after addresses words y = put_word addresses words (address_of y) (word_left y)

pub right-after : (addresses words : List ℕ) (memory : ℕ → ℕ) (y : Operation) → IsAnsweredBy memory y
    → ((a w : ℕ) → word_of addresses words a ≡ Some w → w ≡ memory a)
    → (a w : ℕ) → word_of addresses (words_after addresses words y) a ≡ Some w → w ≡ after y memory a
right-after addresses words memory y is right a w e = search (rules, word-put, after-here, after-idle)

pub word-zero : (addresses : List ℕ) (a w : ℕ) → word_of addresses (map (λ _. 0) addresses) a ≡ Some w → w ≡ 0
word-zero [] a w e = absurd cc
word-zero (x ∷ addresses) a w e = let later = word-zero addresses a w in grind (arith, nat_tests)

-- an operation passes at an address that is looked at only where it reads the word and leaves it
pub passes-is : (word : ℕ) (y : Operation) → passes (Some word) y ≡ true → (word_read y ≡ Some word) × (word_left y ≡ word)
passes-is word y e = search rules

-- ---- how far cores come

-- the operations of a core, at which one is
pub core-of : (cores : List (List Operation)) (id : OpId) (y : Operation) → operation_at cores id ≡ Some y → (ys : List Operation) × (slice_get cores id.core ≡ Some ys) × (slice_get ys id.index ≡ Some y)
core-of cores id y there = option_and_then_some (λ ys. slice_get ys id.index) (slice_get cores id.core) y there (λ ys own at. (ys, own, at))

pub at-core : (cores : List (List Operation)) (core index : ℕ) (ys : List Operation) → slice_get cores core ≡ Some ys → operation_at cores (record { core = core; index = index }) ≡ slice_get ys index
at-core cores core index ys own = ap (option_and_then (λ zs. slice_get zs index)) own

module _ (addresses words : List ℕ) where
  -- the operations that pass
  abbrev pub passing : Operation → Bool
  passing y = passes (word_of addresses words (address_of y)) y

  pub length-settled : (cores : List (List Operation)) (next : List ℕ) → length (settled addresses words cores next) ≡ length next
  length-settled [] next = refl
  length-settled (ys ∷ cores) [] = refl
  length-settled (ys ∷ cores) (n ∷ next) = let rest = length-settled cores next in cc

  -- an operation that settling performs passes
  pub passed : (cores : List (List Operation)) (next : List ℕ) (core index : ℕ) (y : Operation) → length next ≡ length cores
      → operation_at cores (record { core = core; index = index }) ≡ Some y → slice_index next core ≤ index
      → index < slice_index (settled addresses words cores next) core → passing y ≡ true
  passed [] next core index y many there low high = absurd cc
  passed (ys ∷ cores) [] core index y many there low high = absurd (omega arith)
  passed (ys ∷ cores) (n ∷ next) zero index y many there low high =
      let e : n + (index - n) ≡ index = omega arith in
      let passes = prefix_len_passes passing (drop n ys) (index - n) y (omega arith) in
      rw (get_or-drop n ys (index - n) y, e, get_or_from_slice_get ys index y y there) at passes
  passed (ys ∷ cores) (n ∷ next) (suc core) index y many there low high = passed cores next core index y (omega arith) there low high

  -- the next operation of a core doesn't, once all is settled
  pub stopped : (cores : List (List Operation)) (next : List ℕ) (core : ℕ) (y : Operation) → length next ≡ length cores
      → operation_at cores (next_id (settled addresses words cores next) core) ≡ Some y → passing y ≡ false
  stopped [] next core y many there = absurd cc
  stopped (ys ∷ cores) [] core y many there = absurd (omega arith)
  stopped (ys ∷ cores) (n ∷ next) zero y many there =
      let k = prefix_len passing (drop n ys) in
      let within = slice_get_within ys (n + k) y there in
      let stops = prefix_len_stops passing (drop n ys) y (omega (arith, length-drop n ys)) in
      rw (get_or-drop n ys k y, get_or_from_slice_get ys (n + k) y y there) at stops
  stopped (ys ∷ cores) (n ∷ next) (suc core) y many there = stopped cores next core y (omega arith) there

  -- settling takes no operation back
  pub settled-later : (cores : List (List Operation)) (next : List ℕ) (core : ℕ)
      → slice_index next core ≤ slice_index (settled addresses words cores next) core
  settled-later [] next core = omega arith
  settled-later (ys ∷ cores) [] core = omega arith
  settled-later (ys ∷ cores) (n ∷ next) zero = omega arith
  settled-later (ys ∷ cores) (n ∷ next) (suc core) = settled-later cores next core

  -- one core more is settled
  pub more-settled : (cores : List (List Operation)) (next : List ℕ) (core : ℕ) (ys : List Operation) → slice_get cores core ≡ Some ys
      → settled addresses words (take (suc core) cores) next
      ≡ slice_set (settled addresses words (take core cores) next) core (slice_index next core + prefix_len passing (drop (slice_index next core) ys))
  more-settled [] next core ys at = absurd cc
  more-settled (zs ∷ cores) [] zero ys at = refl
  more-settled (zs ∷ cores) [] (suc core) ys at = refl
  more-settled (zs ∷ cores) (n ∷ next) zero ys at = ap (λ xs. (n + prefix_len passing (drop n xs)) ∷ next) (same_Some zs ys at)
  more-settled (zs ∷ cores) (n ∷ next) (suc core) ys at = ap (λ ns. (n + prefix_len passing (drop n zs)) ∷ ns) (more-settled cores next core ys at)

-- an operation that doesn't pass is looked at
pub looked-at : (word : Option ℕ) (y : Operation) → passes word y ≡ false → (w : ℕ) × (word ≡ Some w)
looked-at word y stops = search rules

-- ---- what the code keeps

-- where an address stands among those that are looked at, counted from a number
abbrev slot_of : ℕ → List ℕ → ℕ → Option ℕ
slot_of k addresses addr = position_from (λ a. a == addr) k addresses

slot-next : (addresses : List ℕ) (k addr : ℕ) → slot_of (k + 1) addresses addr ≡ option_map suc (slot_of k addresses addr)
slot-next [] k addr = refl
slot-next (a ∷ addresses) k addr = let later = slot-next addresses (k + 1) addr in grind (arith, nat_tests)

abbrev pub word_at : List ℕ → Option ℕ → Option ℕ
word_at words slot = option_and_then (λ j. slice_get words j) slot

abbrev pub put_at : List ℕ → Option ℕ → ℕ → List ℕ
put_at words None word = words
put_at words (Some j) word = slice_set words j word

pub word_by_slot : (addresses words : List ℕ) (addr : ℕ) → word_of addresses words addr ≡ word_at words (slot_of 0 addresses addr)
word_by_slot [] words addr = refl
word_by_slot (a ∷ addresses) [] addr = search rules
word_by_slot (a ∷ addresses) (w ∷ words) addr =
    let later = word_by_slot addresses words addr in
    let next = slot-next addresses 0 addr in
    grind (arith, nat_tests)

pub put_by_slot : (addresses words : List ℕ) (addr word : ℕ) → put_word addresses words addr word ≡ put_at words (slot_of 0 addresses addr) word
put_by_slot [] words addr word = refl
put_by_slot (a ∷ addresses) [] addr word = search rules
put_by_slot (a ∷ addresses) (w ∷ words) addr word =
    let later = put_by_slot addresses words addr word in
    let next = slot-next addresses 0 addr in
    grind (arith, nat_tests)
