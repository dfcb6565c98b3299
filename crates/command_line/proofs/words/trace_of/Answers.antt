use Rattle.std.proofs.Common.{rules}
use Rattle.command_line.proofs.words.trace_of.Goals as goal

pub returns-in-true-true-clause-trace : goal.returns-in-true-true-clause-trace
returns-in-true-true-clause-trace c = search rules
