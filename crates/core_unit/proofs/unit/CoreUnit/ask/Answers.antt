use Rattle.std.proofs.Common.{arith}
use Rattle.std.proofs.lemmas.Grind.{common_steps}
use Rattle.core_unit.proofs.unit.CoreUnit.ask.Goals as goal

pub returns-in-Gave-clause-outcome : goal.returns-in-Gave-clause-outcome
returns-in-Gave-clause-outcome c = grind (arith, common_steps)

pub returns-in_default-gone-clause-outcome : goal.returns-in_default-gone-clause-outcome
returns-in_default-gone-clause-outcome c = grind (arith, common_steps)
