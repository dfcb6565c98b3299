use Rattle.core_unit.proofs.Fronts.{is_front}
use Rattle.core_unit.proofs.laws.logs_are_fronts.Goals as goal

pub returns : goal.returns
returns c = is_front
