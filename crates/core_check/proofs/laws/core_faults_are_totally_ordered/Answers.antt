use Rattle.core_check.proofs.FaultFacts.{core_fault_total}
use Rattle.core_check.proofs.laws.core_faults_are_totally_ordered.Goals as goal

pub returns : goal.returns
returns c = core_fault_total
