use Rattle.std.proofs.lemmas.Result.{IfOk-weaker}
use Rattle.command_line.proofs.Local.{not_global}
use Rattle.command_line.proofs.argument.with_argument.Goals as goal

pub returns : goal.returns
returns c = IfOk-weaker c.arg.result _ _ (λ made added. added.shape (not_global c.args.argument c.requires)) c.arg.ensures
