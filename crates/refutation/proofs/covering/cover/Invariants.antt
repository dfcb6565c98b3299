use Rattle.std.proofs.Common.{◌≡◌, length}
use Rattle.std.specs.Prelude.{slice_get}
use Rattle.refutation.specs.declared.step.Point.TheVariants.{Init}
use Rattle.refutation.specs.Rules.{LiesIn}
use Rattle.refutation.specs.inner.Covering.{CoversFirst}
use Rattle.refutation.proofs.Firsts.{First}
use Rattle.refutation.proofs.covering.cover.Given as goal

abbrev pub invariant-loop-core : goal.invariant-loop-core
invariant-loop-core l = record {
  init : l.value ≡ 0 → LiesIn l.ranges Init;
  first : First (λ core ys. CoversFirst l.read l.addr l.value l.ranges core (length ys) ys) (slice_get l.trace) l.core;
}
