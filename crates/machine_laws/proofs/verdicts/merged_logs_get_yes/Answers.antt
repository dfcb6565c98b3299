use Rattle.machine_laws.proofs.Merged.{merged_logs_get_yes, whole_runs_get_yes}
use Rattle.machine_laws.proofs.verdicts.merged_logs_get_yes.Goals as goal

pub returns-clause-merged : goal.returns-clause-merged
returns-clause-merged c = merged_logs_get_yes

pub returns-clause-whole : goal.returns-clause-whole
returns-clause-whole c = whole_runs_get_yes
