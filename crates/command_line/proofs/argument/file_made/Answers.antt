use Rattle.std.proofs.Common.{refl}
use Rattle.command_line.proofs.Rules.{file_rule}
use Rattle.command_line.proofs.argument.file_made.Goals as goal

pub returns : goal.returns
returns c =
    file_rule c.new.result c.long.result c.value_name.result c.action.result c.help.result c.args.name _ _
    c.new.ensures.rule c.long.ensures c.value_name.ensures refl c.action.ensures c.help.ensures
