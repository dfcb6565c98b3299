-- All of it went nowhere.
use Rattle.std.proofs.Common.{[], append-nil, refl}
use Rattle.merge_judge.specs.OrderText.{end_line}
use Rattle.merge_judge.proofs.nowhere.NowhereOrder.end.Goals as goal

pub returns-clause-written : goal.returns-clause-written
returns-clause-written c = (end_line c.args._count, ([], tt, append-nil (end_line c.args._count), refl, tt))
