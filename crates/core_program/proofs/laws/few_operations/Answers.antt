use Rattle.std.proofs.Common.{arith}
use Rattle.core_program.proofs.Runs.{reached-length}
use Rattle.core_program.proofs.laws.few_operations.Goals as goal

pub returns : goal.returns
returns c = λ p xs s program h. omega (arith, reached-length p xs s program h, program.short)
