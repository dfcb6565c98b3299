use Rattle.std.proofs.Common.{rules}
use Rattle.commands.proofs.text.read_text.Goals as goal

pub returns-clause-quiet : goal.returns-clause-quiet
returns-clause-quiet g c = search rules

pub returns-in_err-source-clause-err : goal.returns-in_err-source-clause-err
returns-in_err-source-clause-err g c = search rules

pub returns-in_err-source-clause-read : goal.returns-in_err-source-clause-read
returns-in_err-source-clause-read g c = search rules
