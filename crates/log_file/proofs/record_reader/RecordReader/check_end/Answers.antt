-- The bytes end in a line that isn't whole.
use Rattle.std.proofs.Common.{rules, ap}
use Rattle.log_file.specs.declared.stage.Stage.TheVariants as stage
use Rattle.log_file.specs.Answering.{Answering}
use Rattle.log_file.proofs.Standing.{ends}
use Rattle.log_file.proofs.record_reader.RecordReader.check_end.Goals as goal

pub returns-in-Header-clause-ends : goal.returns-in-Header-clause-ends
returns-in-Header-clause-ends c = λ bytes records had. ends had stage.Header (search rules)

pub returns-in-Records-clause-ends : goal.returns-in-Records-clause-ends
returns-in-Records-clause-ends c = λ bytes records had.
    let same = ap (λ (s : Answering). s.count) c.self.view_is in
    rw same (ends had (stage.Records c.in-Records.field-0) (search rules))

pub returns-in-Ended-clause-ends : goal.returns-in-Ended-clause-ends
returns-in-Ended-clause-ends c = λ bytes records had. ends had (stage.Ended c.in-Ended.field-0) (search rules)
