use Rattle.std.proofs.Common.{rules}
use Rattle.command_line.proofs.explaining.vet_of.Goals as goal

pub returns-clause-asked : goal.returns-clause-asked
returns-clause-asked c = search rules
