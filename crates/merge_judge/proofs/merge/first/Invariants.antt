-- None of the fronts so far is before this one.
use Rattle.std.proofs.Common.{◌<◌, length}
use Rattle.merge_judge.specs.inner.Lanes.{IsFirstOf}
use Rattle.merge_judge.proofs.merge.first.Given as goal

abbrev pub invariant-loop-core : goal.invariant-loop-core
invariant-loop-core g l = record {
  within : l.first < length l.lanes;
  before : l.first < l.core;
  first : IsFirstOf l.core l.first l.lanes;
}
