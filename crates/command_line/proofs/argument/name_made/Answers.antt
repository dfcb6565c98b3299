use Rattle.command_line.proofs.Rules.{name_rule}
use Rattle.command_line.proofs.argument.name_made.Goals as goal

pub returns : goal.returns
returns c =
    name_rule c.new.result c.required.result c.action.result c.help.result c.args.name _
    c.new.ensures.rule c.required.ensures c.action.ensures c.help.ensures
