-- Each slice so far has a state that is a replay.
use Rattle.std.proofs.Common.{ℕ, ◌<◌, slice_index_or}
use Rattle.manager_slice.specs.Replay.{Replays}
use Rattle.manager_slice.specs.Parts.{SliceParts}
use Rattle.machine.proofs.running.each_slice_replays.Given as goal

abbrev pub invariant-loop-slice : goal.invariant-loop-slice
invariant-loop-slice l = (k : ℕ) (d : SliceParts) → k < l.slice-index → Replays (slice_index_or l.slices k d)
