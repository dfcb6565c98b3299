use Rattle.trace.proofs.OneTrace.{spells_one}
use Rattle.trace.proofs.laws.spells_one.Goals as goal

pub returns : goal.returns
returns c = spells_one
