use Rattle.std.proofs.Common.{◌≡◌, drop}
use Rattle.audit.specs.Pairs.{serveds}
use Rattle.audit.proofs.pairs.next_served.Given as goal

abbrev pub invariant-loop-at : goal.invariant-loop-at
invariant-loop-at l = serveds l.core (drop l.at l.history) ≡ serveds l.core (drop l.from l.history)
