use Rattle.refutation.specs.inner.Lasts.{HasLasts}
use Rattle.refutation.proofs.indexed.lasts_of.Given as goal

abbrev pub invariant-loop-index : goal.invariant-loop-index
invariant-loop-index l = HasLasts l.operations l.index l.lasts
