use Rattle.log_file.proofs.Bounded.{read_long}
use Rattle.log_file.proofs.OnlyCut.{only_cut}
use Rattle.log_file.proofs.laws.no_fault_passed_over.Goals as goal

pub returns : goal.returns
returns c = λ s bytes records h. (only_cut s bytes records h, read_long s bytes records h)
