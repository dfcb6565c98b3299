use Rattle.core_program.proofs.TextLaws.{one_program_fault, one_set_fault}
use Rattle.core_program.proofs.text_laws.one_fault.Goals as goal

pub returns-clause-program : goal.returns-clause-program
returns-clause-program c = λ format. one_program_fault format

pub returns-clause-set : goal.returns-clause-set
returns-clause-set c = one_set_fault
