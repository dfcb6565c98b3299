use Rattle.tardis_core.proofs.Kept.{none_lead}
use Rattle.tardis_core.proofs.machine.Core.keeping_events.Goals as goal

pub invariant_of-result : goal.invariant_of-result
invariant_of-result c = rw c.new-2.ensures.items (none_lead c.args.programs.now.programs c.args.config.now c.in_ok-machine.machine c.in_ok-machine.ensures.parts)
