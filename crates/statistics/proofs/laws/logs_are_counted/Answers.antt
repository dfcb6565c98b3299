use Rattle.statistics.proofs.Sums.{logs_are_counted}
use Rattle.statistics.proofs.laws.logs_are_counted.Goals as goal

pub returns : goal.returns
returns c = logs_are_counted
