-- All of it went nowhere.
use Rattle.std.proofs.Common.{[], append-nil, refl}
use Rattle.merge_judge.specs.OrderText.{id_line}
use Rattle.merge_judge.proofs.nowhere.NowhereOrder.add.Goals as goal

pub returns-clause-written : goal.returns-clause-written
returns-clause-written c = (id_line c.args._id, ([], tt, append-nil (id_line c.args._id), refl, tt))
