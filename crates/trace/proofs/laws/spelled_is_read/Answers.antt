use Rattle.trace.proofs.OneFault.{spelled}
use Rattle.trace.proofs.laws.spelled_is_read.Goals as goal

pub returns : goal.returns
returns c = spelled
