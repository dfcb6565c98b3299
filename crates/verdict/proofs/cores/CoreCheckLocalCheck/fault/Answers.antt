use Rattle.std.proofs.Common.{arith}
use Rattle.verdict.proofs.CoreFacts.{least_with_core}
use Rattle.verdict.proofs.cores.CoreCheckLocalCheck.fault.Goals as goal

pub loop-core-preserved : goal.loop-core-preserved
loop-core-preserved c =
    least_with_core _ c.args.cores.now c.loop-core.core-index c.core-item.result c.loop-core.least c.fault_of_core.result c.lesser_fault-least.result
    (omega arith) c.core-item.is c.loop-core.invariant c.fault_of_core.ensures c.lesser_fault-least.ensures
