use Rattle.core_program.proofs.TextLaws.{one_set, set_quiet}
use Rattle.core_program.proofs.text_laws.spelled_set_is_read.Goals as goal

pub returns : goal.returns
returns c = record { one_set = λ bytes s t. one_set bytes s t; no_fault = λ bytes set fault. set_quiet bytes set fault }
