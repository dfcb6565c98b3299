use Rattle.manager_slice.proofs.Giving.{IfSome-giving_way}
use Rattle.manager_slice.proofs.row.makes_way.Goals as goal

pub returns-clause-there : goal.returns-clause-there
returns-clause-there c = rw c.giving_way.ensures (IfSome-giving_way c.args.state.now.lines c.len.ensures.distinct)
