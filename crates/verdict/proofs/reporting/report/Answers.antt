use Rattle.std.proofs.Common.{inr}
use Rattle.verdict.proofs.reporting.report.Goals as goal

pub returns-clause-told : goal.returns-clause-told
returns-clause-told g c = rw c.in-Err.is (inr c.complain-in-Err-format-2.ensures.told)
