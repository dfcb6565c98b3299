use Rattle.std.proofs.Common.{refl, rules}
use Rattle.command_line.proofs.Rules.{number_rule}
use Rattle.command_line.proofs.argument.number_made.Goals as goal

pub returns : goal.returns
returns c =
    number_rule c.new.result c.long.result c.value_name.result c.value_parser-2.result c.action.result c.help.result c.args.name _ _
    c.new.ensures.rule c.long.ensures c.value_name.ensures refl c.value_parser-2.ensures.others (search rules) c.action.ensures c.help.ensures
