-- The least index at which the log leaves its program is that of the core's least fault.
use Rattle.std.proofs.Common.{◌∙◌, ap, Some}
use Rattle.std.specs.Prelude.{option_map}
use Rattle.verdict.specs.CoreFaultsOf.{given}
use Rattle.verdict.proofs.CoreFacts.{no_program, no_log, leaves_program, fault_of_program}
use Rattle.verdict.proofs.EntryLogs.{log_found, no_log_found, records_of}
use Rattle.verdict.proofs.cores.CoreCheck.program_fault.Goals as goal

pub returns-in_err-program : goal.returns-in_err-program
returns-in_err-program c = rw (ap given c.in_ok-self.was) (c.from_residual-in_err-program.ensures ∙ no_program c.in_ok-self.field-0.now.programs c.args.self.now.logs.now c.args.core c.in_err-program.ensures)

pub returns-in_err-get : goal.returns-in_err-get
returns-in_err-get c =
    let logs = c.args.self.now.logs.now in
    rw (ap given c.in_ok-self.was) (c.from_residual-in_err-get.ensures ∙ no_log c.in_ok-self.field-0.now.programs logs c.args.core (no_log_found logs c.args.core c.in_err-get.ensures.log))

pub returns-in_err-index : goal.returns-in_err-index
returns-in_err-index c =
    let logs = c.args.self.now.logs.now in
    rw (ap given c.in_ok-self.was) (c.from_residual-in_err-index.ensures ∙ ap (option_map (fault_of_program c.args.core)) c.in_err-index.ensures.fault
    ∙ leaves_program c.in_ok-self.field-0.now.programs logs c.args.core _ (records_of c.in_ok-get.field-0.now) c.in_ok-program.ensures (log_found logs c.args.core _ c.in_ok-get.ensures.log))

pub returns : goal.returns
returns c =
    let logs = c.args.self.now.logs.now in
    rw (ap given c.in_ok-self.was) (ap (λ f. Some f) c.fault_at.ensures ∙ ap (option_map (fault_of_program c.args.core)) c.in_ok-index.ensures.fault
    ∙ leaves_program c.in_ok-self.field-0.now.programs logs c.args.core _ (records_of c.in_ok-get.field-0.now) c.in_ok-program.ensures (log_found logs c.args.core _ c.in_ok-get.ensures.log))
