use Rattle.log_file.proofs.Spelled.{spelled_quiet}
use Rattle.log_file.proofs.laws.spelled_has_no_fault.Goals as goal

pub returns : goal.returns
returns c = λ core cores bytes records h k f p. spelled_quiet core cores bytes records h k f p
