use Rattle.std.proofs.Common.{arith}
use Rattle.worked_rows.proofs.call.call_over.Goals as goal

pub returns : goal.returns
returns g c = record {
  sound = λ zero. let (asked, asks, apart, is) = c.command-status.ensures.answered (omega (arith, zero)) in (asked, asks, apart, is.sound zero);
}
