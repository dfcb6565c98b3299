use Rattle.std.proofs.Common.{rules, sym, Some, None}
use Rattle.refutation.proofs.StepLines.{read-no_read, read-told}
use Rattle.refutation.proofs.line.read_read.Goals as goal

pub returns-in_default : goal.returns-in_default
returns-in_default c = read-no_read c.args.fields.now (sym c.in_default.ensures)

pub returns-in-Some-2 : goal.returns-in-Some-2
returns-in-Some-2 c = read-told c.args.fields.now _ _ (Some c.in-Some-2.ranges) (rw c.in-Some-2.is at c.in_ok-ranges.ensures) (search rules)

pub returns-in-None : goal.returns-in-None
returns-in-None c = read-told c.args.fields.now _ c.in-Some.read None (rw c.in-None.is at c.in_ok-ranges.ensures) (search rules)
