use Rattle.machine_laws.proofs.Agreeing.{agree_on_versions}
use Rattle.machine_laws.proofs.Keeping.{Keeps}
use Rattle.machine_laws.proofs.Opening.{every_run}
use Rattle.machine_laws.specs.Settled.{view_of}
use Rattle.machine_laws.proofs.invariants.versions_hold.Goals as goal

pub returns-clause-sources : goal.returns-clause-sources
returns-clause-sources c = λ programs g w r. (every_run g programs r.0 w r.1).versions

pub returns-clause-agree : goal.returns-clause-agree
returns-clause-agree c = λ programs g w r. let k : Keeps g w = every_run g programs r.0 w r.1 in agree_on_versions (view_of g w) k.stamps k.versions
