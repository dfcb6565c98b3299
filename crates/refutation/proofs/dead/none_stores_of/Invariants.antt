use Rattle.std.proofs.Common.{◌-◌, ◌≤◌}
use Rattle.refutation.specs.inner.Lasts.{NoneStoresOf}
use Rattle.refutation.proofs.dead.none_stores_of.Given as goal

abbrev pub invariant-loop-index : goal.invariant-loop-index
invariant-loop-index l = record {
  after : l.from ≤ l.index;
  none : NoneStoresOf l.operations l.from l.index l.addr l.word;
}

abbrev pub decreases-loop-index : goal.decreases-loop-index
decreases-loop-index l = l.to - l.index
