use Rattle.std.proofs.lemmas.Result.{IfOk-weaker}
use Rattle.command_line.proofs.Local.{no_globals}
use Rattle.command_line.proofs.grammar.with_command.Goals as goal

pub returns : goal.returns
returns c = IfOk-weaker c.subcommand.result _ _ (λ made added. added.shape (no_globals c.args.subcommand c.requires)) c.subcommand.ensures
