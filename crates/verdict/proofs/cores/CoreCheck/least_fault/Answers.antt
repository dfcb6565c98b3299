-- The least fault of all cores is that of the set.
use Rattle.std.proofs.Common.{◌∙◌, ap}
use Rattle.verdict.specs.CoreFaultsOf.{core_faults, given, least_of_cores}
use Rattle.verdict.proofs.CoreFacts.{has_log, least_by_cores}
use Rattle.verdict.proofs.cores.CoreCheck.least_fault.Goals as goal

pub returns : goal.returns
returns g c =
    let programs = given c.args.self.now.programs in
    let logs = c.args.self.now.logs.now in
    c.in_ok-fault.ensures
    ∙ ap (least_of_cores (core_faults programs logs)) c.deref.ensures.value
    ∙ least_by_cores (core_faults programs logs) c.in_ok-cores.cores.items
    (λ f p. c.in_ok-cores.ensures f.id.core (has_log programs logs f p))
