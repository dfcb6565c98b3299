use Rattle.std.proofs.Common.{rules, sym, Some, None}
use Rattle.refutation.proofs.StepLines.{reason-told}
use Rattle.refutation.proofs.line.read_reason.Goals as goal

pub returns-in-Some-2 : goal.returns-in-Some-2
returns-in-Some-2 c =
    reason-told c.args.bytes.now c.in-Some.rest.now c.in-Some.source (sym c.in-Some.ensures) _ _ (Some c.in-Some-2.path) (rw c.in-Some-2.is at c.in_ok-path.ensures) (search rules)

pub returns-in-None : goal.returns-in-None
returns-in-None c =
    reason-told c.args.bytes.now c.in-Some.rest.now c.in-Some.source (sym c.in-Some.ensures) _ c.in-Some-named.write None (rw c.in-None.is at c.in_ok-path.ensures) (search rules)
