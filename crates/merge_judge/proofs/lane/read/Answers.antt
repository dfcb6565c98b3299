-- A record, or the end of the log.
use Rattle.merge_judge.proofs.LaneFacts.{stage_of}
use Rattle.merge_judge.proofs.lane.read.Goals as goal

pub returns-in-Ok-clause-stage : goal.returns-in-Ok-clause-stage
returns-in-Ok-clause-stage g c = λ core cores first records h. stage_of core cores first (g.S.RecordSource.remaining c.next.new.self) (g.L.Reading.kept c.next.new.log) records c.in-Ok.next (c.in-Ok.ensures.next core cores first records h)
