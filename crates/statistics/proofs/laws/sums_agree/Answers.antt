use Rattle.statistics.proofs.Sums.{sums_agree}
use Rattle.statistics.proofs.laws.sums_agree.Goals as goal

pub returns : goal.returns
returns c = sums_agree
