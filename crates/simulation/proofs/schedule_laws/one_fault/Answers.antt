use Rattle.simulation.proofs.ScheduleTexts.{at_most_one}
use Rattle.simulation.proofs.schedule_laws.one_fault.Goals as goal

pub returns : goal.returns
returns c = at_most_one
