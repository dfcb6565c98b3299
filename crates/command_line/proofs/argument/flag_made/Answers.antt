use Rattle.command_line.proofs.Rules.{flag_rule}
use Rattle.command_line.proofs.argument.flag_made.Goals as goal

pub returns : goal.returns
returns c =
    flag_rule c.new.result c.long.result c.action.result c.help.result c.args.name _
    c.new.ensures.rule c.long.ensures c.action.ensures c.help.ensures
