-- One more span.
use Rattle.std.proofs.Common.{arith}
use Rattle.address_check.proofs.ByAddress.{least_with_span}
use Rattle.address_check.proofs.addresses.AddressIndexLocalCheck.fault.Goals as goal

pub loop-span-preserved : goal.loop-span-preserved
loop-span-preserved c =
    let more = least_with_span c.args.self.now c.args.spans.now c.loop-span.span-index (record { start = 0; end = 0 }) (omega arith) in
    grind arith
