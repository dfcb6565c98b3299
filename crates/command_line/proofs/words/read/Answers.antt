use Rattle.std.proofs.Common.{rules, ◌≡◌, false}
use Rattle.command_line.specs.Asking.{texts}
use Rattle.command_line.proofs.Reading.{not_apart}
use Rattle.command_line.proofs.words.read.Goals as goal

pub returns-then-not-branch-clause-usage : goal.returns-then-not-branch-clause-usage
returns-then-not-branch-clause-usage c =
    let over : c.in_ok-are_apart.field-0 ≡ false = search rules in
    not_apart (texts c.args.words.now) c.in_ok-request.request c.in_ok-are_apart.field-0 c.misuse.result c.in_ok-request.ensures.request c.in_ok-are_apart.ensures over
