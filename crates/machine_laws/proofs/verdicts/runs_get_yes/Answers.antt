use Rattle.machine_laws.proofs.Judged.{runs_get_yes, runs_are_consistent}
use Rattle.machine_laws.proofs.verdicts.runs_get_yes.Goals as goal

pub returns-clause-yes : goal.returns-clause-yes
returns-clause-yes c = runs_get_yes

pub returns-clause-consistent : goal.returns-clause-consistent
returns-clause-consistent c = runs_are_consistent
