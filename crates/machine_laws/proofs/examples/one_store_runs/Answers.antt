use Rattle.machine_laws.proofs.OneStore.{one_store_runs}
use Rattle.machine_laws.proofs.examples.one_store_runs.Goals as goal

pub returns : goal.returns
returns c = one_store_runs
