use Rattle.private_cache.specs.Steps.{IsLeastExclusive}
use Rattle.private_cache.proofs.Least.{walk}
use Rattle.private_cache.proofs.cache.PrivateCache.least_exclusive.Given as goal

-- the walk over what is left, from what is found, ends right
abbrev pub invariant-loop-addr : goal.invariant-loop-addr
invariant-loop-addr l = IsLeastExclusive l.self (walk l.least l.addr-iterator)
