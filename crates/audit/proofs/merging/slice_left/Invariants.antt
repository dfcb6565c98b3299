use Rattle.std.proofs.Common.{ℕ, ◌<◌, ◌≤◌, length, slice_index}
use Rattle.audit.specs.Lists.{histories, history_of}
use Rattle.audit.proofs.merging.slice_left.Given as goal

abbrev pub invariant-loop-slice : goal.invariant-loop-slice
invariant-loop-slice l = (k : ℕ) → k < l.slice → length (history_of (histories l.slices) k) ≤ slice_index l.fronts k
