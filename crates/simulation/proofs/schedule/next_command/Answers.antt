use Rattle.std.proofs.Common.{refl}
use Rattle.simulation.proofs.ScheduleTexts.{reading}
use Rattle.simulation.proofs.schedule.next_command.Goals as goal
use Rattle.text_lines.proofs.Items.{none_without_feed, none_of_other, first_of_line}

pub returns-in_err-line-clause-none : goal.returns-in_err-line-clause-none
returns-in_err-line-clause-none c = λ _. none_without_feed (reading c.args.cores) c.args.text.now (c.in_err-line.ensures.none refl)

pub returns-in_err-read_command-clause-none : goal.returns-in_err-read_command-clause-none
returns-in_err-read_command-clause-none c = λ _.
    let found = c.in_ok-line.ensures.found in
    none_of_other (reading c.args.cores) c.args.text.now c.in_ok-line.line.now c.in_ok-line.rest.now found.0 found.1 c.in_err-read_command.ensures

pub returns-clause-found : goal.returns-clause-found
returns-clause-found c =
    let found = c.in_ok-line.ensures.found in
    first_of_line (reading c.args.cores) c.args.text.now c.in_ok-line.line.now c.in_ok-line.rest.now c.in_ok-read_command.field-0 found.1 c.in_ok-read_command.ensures
