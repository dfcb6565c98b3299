use Rattle.std.proofs.Common.{arith, sym}
use Rattle.audit.proofs.Compared.{served_here}
use Rattle.audit.proofs.pairs.next_served.Goals as goal

pub returns-then-is_of_core : goal.returns-then-is_of_core
returns-then-is_of_core c =
    served_here c.args.core c.args.history.now c.args.from c.loop-at.at c.index-history-at.result c.index-history-at.is (omega arith) (omega arith) c.loop-at.invariant (sym c.if-is_of_core.ensures)
