-- The keys so far are those of the states so far.
use Rattle.std.proofs.Common.{◌≡◌, ℕ, List, take}
use Rattle.std.specs.List.{list_any}
use Rattle.refutation.specs.inner.Seen.{is_among}
use Rattle.refutation.proofs.SeenStates.{is_state}
use Rattle.refutation.proofs.seen.Seen.of.Given as goal

abbrev pub invariant-loop-state : goal.invariant-loop-state
invariant-loop-state l = (next words : List ℕ) → is_among l.keys next words ≡ list_any (is_state next words) (take l.state-index l.states)
