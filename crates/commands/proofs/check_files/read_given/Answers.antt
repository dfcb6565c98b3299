use Rattle.std.proofs.Common.{rules}
use Rattle.command_line.specs.declared.request.Request.TheVariants as request
use Rattle.commands.proofs.Performed.{input_fault}
use Rattle.commands.specs.declared.place.Input.TheVariants as input
use Rattle.commands.proofs.check_files.read_given.Goals as goal

pub returns-in-Ok-clause-ok : goal.returns-in-Ok-clause-ok
returns-in-Ok-clause-ok g c = search rules

pub returns-in-Err-clause-err : goal.returns-in-Err-clause-err
returns-in-Err-clause-err g c =
    input_fault _ (request.Check c.args.asked.now) input.Programs c.in-Some.name c.in-Err.fault c.in-Some.is c.in-Err.ensures.err
