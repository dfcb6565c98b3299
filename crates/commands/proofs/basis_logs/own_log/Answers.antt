-- All records are looked at.
use Rattle.std.proofs.Common.{◌∙◌, ap, arith}
use Rattle.std.proofs.lemmas.List.{take_all}
use Rattle.commands.specs.inner.ReadLogs.{own_log}
use Rattle.commands.proofs.basis_logs.own_log.Goals as goal

pub returns : goal.returns
returns c = c.loop-entry.invariant ∙ ap (λ es. own_log es c.args.core) (take_all c.loop-entry.entry-index c.args.entries.now (omega arith))
