use Rattle.machine_laws.proofs.Refusing.{no_fault, no_run_meets_one}
use Rattle.machine_laws.proofs.Replies.{reached_ready}
use Rattle.machine_laws.proofs.refusals.never_refused.Goals as goal

pub returns-clause-fits : goal.returns-clause-fits
returns-clause-fits c = λ programs g w r. (reached_ready programs g w r).1

pub returns-clause-passes : goal.returns-clause-passes
returns-clause-passes c = no_fault

pub returns-clause-runs : goal.returns-clause-runs
returns-clause-runs c = no_run_meets_one
