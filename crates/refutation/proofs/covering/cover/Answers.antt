use Rattle.std.proofs.Common.{rules, arith, ◌∙◌}
use Rattle.std.proofs.lemmas.Option.{slice_get_within}
use Rattle.refutation.proofs.Firsts.{core_at, cores-all, all-cores}
use Rattle.refutation.proofs.Settled.{at-core}
use Rattle.refutation.proofs.covering.cover.Goals as goal

pub cover_core-requires : goal.cover_core-requires
cover_core-requires c =
    let found = core_at c.cores-operations-items.result.now c.loop-core.core c.cores-operations-items.ensures.value c.operations-item.is (omega arith) in
    rw c.deref.ensures.value (rw found at (c.cores-operations-items.ensures.size.short c.loop-core.core))

pub returns-then-not-cover_core : goal.returns-then-not-cover_core
returns-then-not-cover_core c = λ covers.
    let found = core_at c.cores-operations-items.result.now c.loop-core.core c.cores-operations-items.ensures.value c.operations-item.is (omega arith) in
    c.if-not-cover_core.ensures (rw (c.at.ensures, c.deref.ensures.value) (λ index y below at.
    covers.writes (record { core = c.loop-core.core; index = index }) y (at-core c.args.trace.now c.loop-core.core index _ found ∙ at)))

pub returns : goal.returns
returns c =
    let all = cores-all c.cores-operations-items.result.now c.loop-core.core c.cores-operations-items.ensures.value (omega arith) in
    search (rules, all-cores, slice_get_within)
