use Rattle.core_program.proofs.TextLaws.{one_program, program_quiet}
use Rattle.core_program.proofs.text_laws.printed_is_read.Goals as goal

pub returns : goal.returns
returns c = record { one_program = λ f g bytes p q. one_program f g bytes p q; no_fault = λ format bytes program fault. program_quiet format bytes program fault }
