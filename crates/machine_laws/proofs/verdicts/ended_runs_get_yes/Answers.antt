use Rattle.machine_laws.proofs.Judged.{ended_runs_get_yes, ended_runs_are_flat}
use Rattle.machine_laws.proofs.verdicts.ended_runs_get_yes.Goals as goal

pub returns-clause-yes : goal.returns-clause-yes
returns-clause-yes c = ended_runs_get_yes

pub returns-clause-flat : goal.returns-clause-flat
returns-clause-flat c = ended_runs_are_flat
