use Rattle.private_cache.proofs.Least.{least_exclusive}
use Rattle.private_cache.proofs.cache.PrivateCache.least_exclusive.Goals as goal

pub loop-addr-init : goal.loop-addr-init
loop-addr-init c =
    rw (c.into_iter-addr-iterator.ensures.into_iter_gives, c.iter-addr-items.ensures.rest, ← c.self.view_is)
    (least_exclusive c.self.inside.lines c.self.invariant)
