use Rattle.core_check.proofs.OrderFaultFacts.{fault_at_place, fault_of_log}
use Rattle.core_check.proofs.laws.order_faults_are_where_logs_fall.Goals as goal

pub returns : goal.returns
returns c = λ logs id log place. (fault_at_place logs id log place, fault_of_log logs id log place)
