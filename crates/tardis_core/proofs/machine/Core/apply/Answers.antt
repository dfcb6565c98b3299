use Rattle.tardis_core.proofs.Kept.{kept_on}
use Rattle.tardis_core.proofs.machine.Core.apply.Goals as goal

pub invariant_of-self-2 : goal.invariant_of-self-2
invariant_of-self-2 c =
    kept_on c.self.inside.events c.keep.new.kept (λ kept. kept.items) c.args.event c.in_ok-outcome.outcome c.self.inside.machine c.make.new.self c.self.invariant c.keep.ensures
    c.in_ok-outcome.ensures.outcome c.in_ok-outcome.ensures.leads.config
