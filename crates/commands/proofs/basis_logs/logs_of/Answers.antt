use Rattle.std.proofs.Common.{List, subst}
use Rattle.std.specs.Prelude.{◌≡◌, IfOk}
use Rattle.log_record.specs.Entries.{record_lists}
use Rattle.log_record.specs.declared.record.Record.{Record}
use Rattle.commands.specs.inner.ReadLogs.{HoldsRecords}
use Rattle.commands.proofs.basis_logs.logs_of.Goals as goal

pub returns-in-Logs : goal.returns-in-Logs
returns-in-Logs c = λ logs are.
    subst (λ (ls : List (List Record)). IfOk c.logs.result (λ read. record_lists read.items ≡ ls)) (subst (HoldsRecords logs) c.in-Logs.is are.held) c.logs.ensures.logs

pub returns-in-Index : goal.returns-in-Index
returns-in-Index c = λ logs are. c.logs_in.ensures logs (subst (HoldsRecords logs) c.in-Index.is are.held) are.many
