-- The spans have all addresses below `start`.
use Rattle.address_check.proofs.ByAddress.{HaveBelow}
use Rattle.address_check.proofs.index.AddressIndex.spans.Given as goal

abbrev pub invariant-loop-number : goal.invariant-loop-number
invariant-loop-number l = HaveBelow l.start l.spans.items
