use Rattle.std.proofs.Common.{rules, arith}
use Rattle.refutation.proofs.Firsts.{core_at, cores-all}
use Rattle.refutation.proofs.LastStores.{first-lasts}
use Rattle.std.proofs.lemmas.Option.{slice_get_within}
use Rattle.refutation.proofs.indexed.all_lasts.Goals as goal

pub loop-operations-preserved : goal.loop-operations-preserved
loop-operations-preserved c =
    let found = core_at c.cores-operations-items.result.now c.loop-operations.operations-index c.cores-operations-items.ensures.value c.operations-item.is (omega arith) in
    search (rules, first-lasts)

pub returns : goal.returns
returns c =
    let all = cores-all c.cores-operations-items.result.now c.loop-operations.operations-index c.cores-operations-items.ensures.value (omega arith) in
    search (rules, slice_get_within)
