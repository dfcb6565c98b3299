use Rattle.machine_laws.proofs.Opening.{every_run}
use Rattle.machine_laws.proofs.invariants.stamps_hold.Goals as goal

pub returns : goal.returns
returns c = λ programs g w r. (every_run g programs r.0 w r.1).stamps
