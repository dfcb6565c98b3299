use Rattle.audit.proofs.Gathered.{merges_run, whole_runs_run}
use Rattle.audit.proofs.laws.merges_are_runs.Goals as goal

pub returns-clause-merges : goal.returns-clause-merges
returns-clause-merges c = merges_run

pub returns-clause-whole : goal.returns-clause-whole
returns-clause-whole c = whole_runs_run
