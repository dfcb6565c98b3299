use Rattle.core_program.proofs.Faults.{conforms-fault, fault-conforms}
use Rattle.core_program.proofs.laws.conforming_is_no_fault.Goals as goal

pub returns : goal.returns
returns c = λ p xs program. (fault-conforms p xs program, conforms-fault p xs)
