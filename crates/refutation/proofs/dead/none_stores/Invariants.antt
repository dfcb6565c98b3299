-- Of the first cores no operation stores the word.
use Rattle.std.specs.Prelude.{slice_get, slice_index}
use Rattle.refutation.specs.inner.Lasts.{NoneStoresOf}
use Rattle.refutation.proofs.Firsts.{First}
use Rattle.refutation.proofs.dead.none_stores.Given as goal

abbrev pub invariant-loop-core : goal.invariant-loop-core
invariant-loop-core l =
    First (λ core ys. NoneStoresOf ys (slice_index l.next core) (slice_index l.limits core) l.addr l.word) (slice_get l.trace) l.core
