-- Each unit so far has a state that is a replay.
use Rattle.std.proofs.Common.{ℕ, ◌<◌, slice_index_or}
use Rattle.core_unit.specs.Kept.{Replays}
use Rattle.core_unit.specs.Parts.{UnitParts}
use Rattle.machine.proofs.running.each_replays.Given as goal

abbrev pub invariant-loop-unit : goal.invariant-loop-unit
invariant-loop-unit l = (k : ℕ) (d : UnitParts) → k < l.unit-index → Replays (slice_index_or l.units k d)
