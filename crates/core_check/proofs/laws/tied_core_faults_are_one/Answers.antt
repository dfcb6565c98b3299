use Rattle.core_check.proofs.FaultFacts.{tied_core_faults}
use Rattle.core_check.proofs.laws.tied_core_faults_are_one.Goals as goal

pub returns : goal.returns
returns c = tied_core_faults
