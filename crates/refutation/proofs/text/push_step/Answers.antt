use Rattle.std.proofs.Common.{rules, refl}
use Rattle.refutation.proofs.Lines.{none_of_other}
use Rattle.refutation.proofs.text.push_step.Goals as goal

pub returns-in_default-2 : goal.returns-in_default-2
returns-in_default-2 c = (none_of_other c.args.bytes.now _ c.in-Some.rest.now (rw c.in_default-2.is at c.in_ok-step.ensures) (search rules) (search rules), refl)
