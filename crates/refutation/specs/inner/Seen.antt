-- The states of a set, as they are looked up.
use Rattle.std.specs.Prelude.{ℕ, Bool, IsTrue, List}
use Rattle.std.specs.Global.{Vec}
use Rattle.std.specs.BTreeSet.{BTreeSet, contains_by}
use Rattle.std.specs.Cmp.Lexicographic.{slice_cmp}
use Rattle.std.specs.Ordering.{nat_cmp, ordering_then}
use Rattle.mem_op.specs.Consistency.{Operation}
use Rattle.refutation.specs.States.{settled}

-- the state of these indices and words is among them
abbrev pub is_among : BTreeSet (Vec ℕ × Vec ℕ) → List ℕ → List ℕ → Bool
is_among keys next words = contains_by (λ k. ordering_then (slice_cmp nat_cmp next k.0.items) (slice_cmp nat_cmp words k.1.items)) keys

-- it is among them, once every operation that passes has been performed
abbrev pub is_among_settled : List (List Operation) → List ℕ → BTreeSet (Vec ℕ × Vec ℕ) → List ℕ → List ℕ → Bool
is_among_settled cores addresses keys next words = is_among keys (settled addresses words cores next) words

abbrev pub IsAmong : BTreeSet (Vec ℕ × Vec ℕ) → List ℕ → List ℕ → Type 0
IsAmong keys next words = IsTrue (is_among keys next words)
