use Rattle.machine_laws.proofs.Opening.{every_run}
use Rattle.machine_laws.proofs.invariants.owners_agree.Goals as goal

pub returns-clause-owners : goal.returns-clause-owners
returns-clause-owners c = λ programs g w r. (every_run g programs r.0 w r.1).owners

pub returns-clause-hands : goal.returns-clause-hands
returns-clause-hands c = λ programs g w r. (every_run g programs r.0 w r.1).hands
