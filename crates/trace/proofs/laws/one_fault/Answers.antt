use Rattle.trace.proofs.OneFault.{at_most_one}
use Rattle.trace.proofs.laws.one_fault.Goals as goal

pub returns : goal.returns
returns c = at_most_one
