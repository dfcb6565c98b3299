use Rattle.audit.proofs.Refuted.{none_more}
use Rattle.audit.proofs.accepting.first_report.Goals as goal

pub loop-core-preserved : goal.loop-core-preserved
loop-core-preserved c = none_more c.args.programs.now.programs c.args.units.now c.args.faults.now c.loop-core.core c.loop-core.invariant c.in_default.ensures
