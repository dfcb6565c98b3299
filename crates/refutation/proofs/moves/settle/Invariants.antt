use Rattle.std.proofs.Common.{◌≡◌, take}
use Rattle.refutation.specs.States.{settled}
use Rattle.refutation.proofs.moves.settle.Given as goal

abbrev pub invariant-loop-core : goal.invariant-loop-core
invariant-loop-core l = l.far.items ≡ settled l.addresses l.words (take l.core l.trace) l.next
