use Rattle.machine_laws.proofs.Opening.{every_run}
use Rattle.machine_laws.proofs.Swaps.{has_swaps}
use Rattle.machine_laws.proofs.invariants.swaps_hold.Goals as goal

pub returns : goal.returns
returns c = λ programs g w r. has_swaps g w (every_run g programs r.0 w r.1)
