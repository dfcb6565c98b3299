use Rattle.commands.proofs.Numbers.{events_tried, unput}
use Rattle.commands.proofs.sim_files.leave_events.Goals as goal

pub returns-clause-tried : goal.returns-clause-tried
returns-clause-tried g c = rw c.in-Some.is (events_tried _ _ c.in-Some.name _ _ c.put_under.result c.put_under.ensures.ok c.put_under.ensures.err)

pub returns-clause-err : goal.returns-clause-err
returns-clause-err g c = unput _ _ c.put_under.result c.put_under.ensures.err
