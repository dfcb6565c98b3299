use Rattle.std.proofs.Common.{◌≡◌, ◌+◌, ◌-◌, drop, length}
use Rattle.std.specs.List.{prefix_len}
use Rattle.refutation.proofs.Settled.{passing}
use Rattle.refutation.proofs.moves.settled_index.Given as goal

abbrev pub invariant-loop-index : goal.invariant-loop-index
invariant-loop-index l =
    l.index + prefix_len (passing l.addresses l.words) (drop l.index l.operations) ≡ l.from + prefix_len (passing l.addresses l.words) (drop l.from l.operations)

abbrev pub decreases-loop-index : goal.decreases-loop-index
decreases-loop-index l = length l.operations - l.index
