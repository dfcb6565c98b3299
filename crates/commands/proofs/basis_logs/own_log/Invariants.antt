-- Those so far.
use Rattle.std.proofs.Common.{◌≡◌, take}
use Rattle.commands.specs.inner.ReadLogs.{own_log}
use Rattle.commands.proofs.basis_logs.own_log.Given as goal

abbrev pub invariant-loop-entry : goal.invariant-loop-entry
invariant-loop-entry l = l.log.items ≡ own_log (take l.entry-index l.entries) l.core
