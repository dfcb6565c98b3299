use Rattle.std.proofs.Common.{ℕ, ◌≡◌, ◌<◌, slice_index}
use Rattle.audit.proofs.merging.next_due.Given as goal

abbrev pub invariant-loop-slice : goal.invariant-loop-slice
invariant-loop-slice l = (s : ℕ) → s < l.slice → slice_index l.due s ≡ 0
