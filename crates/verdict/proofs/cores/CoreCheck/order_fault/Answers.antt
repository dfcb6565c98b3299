-- The least index at which the log falls is that of the core's least fault.
use Rattle.std.proofs.Common.{◌∙◌, ap, Some}
use Rattle.verdict.proofs.CoreFacts.{falls_first, never_falls, no_order_fault}
use Rattle.verdict.proofs.EntryLogs.{log_found, no_log_found, records_of}
use Rattle.verdict.proofs.cores.CoreCheck.order_fault.Goals as goal

pub returns-in_err-get : goal.returns-in_err-get
returns-in_err-get c = let logs = c.args.self.now.logs.now in c.from_residual.ensures ∙ no_order_fault logs c.args.core (no_log_found logs c.args.core c.in_err-get.ensures.log)

pub returns-in_err-index : goal.returns-in_err-index
returns-in_err-index c =
    let logs = c.args.self.now.logs.now in
    let log = log_found logs c.args.core _ c.in_ok-get.ensures.log in
    c.from_residual-in_err-index.ensures ∙ never_falls logs c.args.core (records_of c.in_ok-get.field-0.now) log c.in_err-index.ensures.least

pub returns : goal.returns
returns c =
    let logs = c.args.self.now.logs.now in
    let log = log_found logs c.args.core _ c.in_ok-get.ensures.log in
    ap (λ f. Some f) c.fault_at.ensures ∙ falls_first logs c.args.core c.in_ok-index.index (records_of c.in_ok-get.field-0.now) log c.in_ok-index.ensures.least
