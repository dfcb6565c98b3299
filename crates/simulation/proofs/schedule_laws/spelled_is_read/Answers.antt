use Rattle.simulation.proofs.ScheduleTexts.{spelled}
use Rattle.simulation.proofs.schedule_laws.spelled_is_read.Goals as goal

pub returns : goal.returns
returns c = spelled
