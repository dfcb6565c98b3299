use Rattle.refutation.proofs.NextOnes.{FirstOnes, StopsAt}
use Rattle.refutation.proofs.dead.is_dead.Given as goal

abbrev pub invariant-loop-core : goal.invariant-loop-core
invariant-loop-core l = FirstOnes l.trace l.limits (StopsAt l.trace l.addresses l.next l.words l.limits) l.is_some l.core
