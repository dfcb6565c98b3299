-- A record after as many as a log may have, and the end line of another number of records.
use Rattle.std.proofs.Common.{arith, rules, ◌≢◌}
use Rattle.log_file.proofs.OneLine.{count_least, too_many}
use Rattle.log_file.proofs.one_line.check_body.Goals as goal

pub returns-in-Ok-2 : goal.returns-in-Ok-2
returns-in-Ok-2 c =
    let found = c.in-Ok-2.ensures.found in
    too_many c.args.format c.args.count c.args.line.now c.in-Ok-2.field-0 (omega arith) found.0 found.1 (omega arith)

pub returns-in-Some-2 : goal.returns-in-Some-2
returns-in-Some-2 c =
    let found = c.in-Some-2.ensures.found in
    let other : found.0 ≢ c.args.count = search rules in
    count_least c.args.format c.args.count c.args.line.now found.0 (omega arith) found.1 other
