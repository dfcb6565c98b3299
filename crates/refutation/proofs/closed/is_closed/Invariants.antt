use Rattle.std.specs.Prelude.{slice_get}
use Rattle.refutation.specs.States.{Has, IsRightState}
use Rattle.refutation.proofs.Firsts.{First}
use Rattle.refutation.proofs.closed.is_closed.Given as goal

abbrev pub invariant-loop-state : goal.invariant-loop-state
invariant-loop-state l = First (λ number state. IsRightState l.trace l.facts l.addresses (Has l.set) state) (slice_get l.set) l.state-index
