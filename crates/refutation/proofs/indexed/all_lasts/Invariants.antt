use Rattle.refutation.proofs.LastStores.{HasLastsOfFirst}
use Rattle.refutation.proofs.indexed.all_lasts.Given as goal

abbrev pub invariant-loop-operations : goal.invariant-loop-operations
invariant-loop-operations l = HasLastsOfFirst l.trace l.operations-index l.lasts.items
