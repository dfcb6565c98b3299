-- What operations find in a memory and leave there, and numbers that are raised.
use Rattle.std.specs.Prelude.{◌≡◌, ℕ, ◌+◌, ◌<◌, ◌≤◌, ◌⊎◌, true, cond, List, Option, Some, length, slice_index, slice_set}
use Rattle.std.proofs.Common.{rules, arith}
use Rattle.std.proofs.lemmas.Grind.{common_steps}
use Rattle.mem_op.specs.Consistency.{Operation, is_store_to, word_left}
use Rattle.flat_replay.specs.Accesses.{address_of, word_read}
use Rattle.flat_replay.specs.Memory.{IsAnsweredBy, after}
use Rattle.refutation.specs.States.{fits}

-- ---- a number that is raised

abbrev pub raised : List ℕ → ℕ → List ℕ
raised xs k = slice_set xs k (slice_index xs k + 1)

pub le-raised : (xs : List ℕ) (k j : ℕ) → k < length xs → slice_index xs j ≤ slice_index (raised xs k) j
le-raised xs k j l = grind (arith, common_steps)

-- an index below it was below the old number, or is that number
pub below-raised : (xs : List ℕ) (k j i : ℕ) → k < length xs → i < slice_index (raised xs k) j
    → (i < slice_index xs j) ⊎ ((j ≡ k) × (i ≡ slice_index xs k))
below-raised xs k j i l low = grind (arith, common_steps)

-- ---- one operation

pub store-address : (a : ℕ) (y : Operation) → is_store_to a y ≡ true → address_of y ≡ a
store-address a y e = search rules

pub fits-read : (w : ℕ) (y : Operation) → ((v : ℕ) → word_read y ≡ Some v → v ≡ w) → fits (Some w) y ≡ true
fits-read w y right = search rules

pub reads : (memory : ℕ → ℕ) (y : Operation) (v : ℕ) → IsAnsweredBy memory y → word_read y ≡ Some v → v ≡ memory (address_of y)
reads memory y v is e = search rules

pub fits-answered : (memory : ℕ → ℕ) (y : Operation) (word : Option ℕ) → ((w : ℕ) → word ≡ Some w → w ≡ memory (address_of y)) → fits word y ≡ true
    → IsAnsweredBy memory y
fits-answered memory y word right fit = search rules

pub after-is : (memory : ℕ → ℕ) (y : Operation) (a : ℕ) → after y memory a ≡ cond (is_store_to a y) (word_left y) (memory a)
after-is memory y a = search rules

pub after-here : (memory : ℕ → ℕ) (y : Operation) (a : ℕ) → IsAnsweredBy memory y → address_of y ≡ a → after y memory a ≡ word_left y
after-here memory y a is here = search rules

-- it leaves a word alone at another address, or where it leaves the word that it reads
pub after-idle : (memory : ℕ → ℕ) (y : Operation) (a : ℕ) → IsAnsweredBy memory y → (address_of y ≡ a → word_read y ≡ Some (word_left y)) → after y memory a ≡ memory a
after-idle memory y a is leaves = search rules
