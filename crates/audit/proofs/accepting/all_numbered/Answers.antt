use Rattle.std.proofs.Common.{arith}
use Rattle.audit.specs.Runs.{IsNumbered}
use Rattle.audit.proofs.Each.{each_more, each_all}
use Rattle.audit.proofs.accepting.all_numbered.Goals as goal

pub loop-number-preserved : goal.loop-number-preserved
loop-number-preserved c = each_more c.args.slices.now (IsNumbered c.args.config.now) c.loop-number.number c.index-slices-number.result c.index-slices-number.is c.loop-number-test.true c.loop-number.invariant c.if-not-is_numbered.ensures

pub returns : goal.returns
returns c = each_all c.args.slices.now (IsNumbered c.args.config.now) c.loop-number.number (omega arith) c.loop-number.invariant
