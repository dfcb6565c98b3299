use Rattle.core_program.proofs.Faults.{differs-fault, fault-differs}
use Rattle.core_program.proofs.laws.fault_is_where_log_differs.Goals as goal

pub returns : goal.returns
returns c = λ p xs i program. (fault-differs p xs i program, differs-fault p xs i)
