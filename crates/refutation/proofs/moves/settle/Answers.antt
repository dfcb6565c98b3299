use Rattle.std.proofs.Common.{add-one, arith}
use Rattle.refutation.proofs.Firsts.{core_at}
use Rattle.refutation.proofs.Settled.{more-settled}
use Rattle.refutation.proofs.moves.settle.Goals as goal

pub loop-core-preserved : goal.loop-core-preserved
loop-core-preserved c =
    let found = core_at c.cores-operations-items.result.now c.loop-core.core c.cores-operations-items.ensures.value c.operations-item.is (omega arith) in
    rw (add-one, more-settled c.args.addresses.now c.args.words.now c.args.trace.now c.args.next.now c.loop-core.core c.operations-item.result.items found)
    (rw (c.loop-core.invariant, c.settled_index-index.ensures, c.number_of.ensures, c.deref.ensures.value) at c.set.ensures)
