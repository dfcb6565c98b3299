use Rattle.std.proofs.Common.{refl, arith}
use Rattle.decimal_text.proofs.Numbers.{as_u64_some}
use Rattle.decimal_text.proofs.number.long_number.Goals as goal

pub loop-rest-init : goal.loop-rest-init
loop-rest-init c = (c.args.start, as_u64_some c.args.start (omega arith), refl)
