use Rattle.std.proofs.Common.{rules}
use Rattle.command_line.proofs.Rules.{files_rule}
use Rattle.command_line.proofs.argument.files_made.Goals as goal

pub returns : goal.returns
returns c =
    files_rule c.new.result c.required.result c.num_args.result c.action.result c.help.result _ c.new.ensures.rule c.required.ensures
    c.num_args.ensures.0 (search rules) c.action.ensures c.help.ensures
