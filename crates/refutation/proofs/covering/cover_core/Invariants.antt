use Rattle.refutation.specs.inner.Covering.{CoversFirst}
use Rattle.refutation.proofs.covering.cover_core.Given as goal

abbrev pub invariant-loop-index : goal.invariant-loop-index
invariant-loop-index l = CoversFirst l.read l.addr l.value l.ranges l.core l.index l.operations
