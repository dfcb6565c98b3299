use Rattle.std.proofs.Common.{arith}
use Rattle.audit.specs.Runs.{HasEnded}
use Rattle.audit.proofs.Each.{each_more, each_all}
use Rattle.audit.proofs.accepting.all_ended.Goals as goal

pub loop-core-preserved : goal.loop-core-preserved
loop-core-preserved c = each_more c.args.units.now (HasEnded c.args.programs.now.programs c.args.config.now) c.loop-core.core c.index-units-core.result c.index-units-core.is c.loop-core-test.true c.loop-core.invariant c.if-not-has_ended.ensures

pub returns : goal.returns
returns c = each_all c.args.units.now (HasEnded c.args.programs.now.programs c.args.config.now) c.loop-core.core (omega arith) c.loop-core.invariant
