use Rattle.verdict.proofs.CoreFacts.{In-one_more}
use Rattle.verdict.proofs.cores.CoreCheck.cores.Goals as goal

pub loop-number-preserved : goal.loop-number-preserved
loop-number-preserved c = In-one_more c.loop-number.cores.items _ c.loop-number.number c.at.result c.in_ok-push.ensures.items c.at.ensures c.loop-number.invariant
