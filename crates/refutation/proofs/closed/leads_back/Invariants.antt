use Rattle.refutation.specs.States.{next_of}
use Rattle.refutation.specs.inner.Seen.{IsAmong}
use Rattle.refutation.proofs.NextOnes.{FirstOnes, LeadsInto}
use Rattle.refutation.proofs.closed.leads_back.Given as goal

abbrev pub invariant-loop-core : goal.invariant-loop-core
invariant-loop-core l = FirstOnes l.trace (next_of l.state) (LeadsInto l.trace l.facts l.addresses (IsAmong l.seen.keys) l.state) l.is_left l.core
