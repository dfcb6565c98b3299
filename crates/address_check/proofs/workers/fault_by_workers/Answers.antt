use Rattle.std.proofs.Common.{arith, length}
use Rattle.std.proofs.lemmas.Grind.{div_ceil_times}
use Rattle.address_check.proofs.workers.fault_by_workers.Goals as goal

pub least-requires-clause-cover : goal.least-requires-clause-cover
least-requires-clause-cover g c κs within = let enough = div_ceil_times (length c.args.items.now) c.args.workers c.requires.some in grind (arith, c.in_ok-found.ensures.len)
