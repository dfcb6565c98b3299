use Rattle.std.proofs.Common.{rules, ◌≡◌, List, sym, subst, ◌∙◌}
use Rattle.core_unit.specs.Parts.{UnitParts}
use Rattle.core_machine.specs.Parts.{world}
use Rattle.core_machine.specs.Works.{log_at}
use Rattle.audit.specs.Runs.{kept_log}
use Rattle.tardis_core.proofs.Seating.{logs_are, units_are}
use Rattle.tardis_core.proofs.machine.Core.units.Goals as goal

pub returns-clause-units : goal.returns-clause-units
returns-clause-units c =
    rw (← c.self.view_is, ← c.machine.view_is)
    (c.as_slice.ensures.value ∙ sym (units_are c.machine.inside.units.items c.machine.inside.kept.items c.machine.invariant.one_each))

pub returns-clause-logs : goal.returns-clause-logs
returns-clause-logs c core =
    subst (λ (us : List UnitParts). kept_log us core ≡ log_at (world c.args.self.now) core) (sym (returns-clause-units c)) (logs_are c.args.self.now (search rules) core)
