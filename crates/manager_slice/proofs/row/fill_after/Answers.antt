use Rattle.std.proofs.Common.{rules}
use Rattle.manager_slice.proofs.Fills.{word_at-insert}
use Rattle.manager_slice.proofs.row.fill_after.Goals as goal

pub returns : goal.returns
returns c =
    rw (word_at-insert c.args.state.now.memory.words c.args.victim c.args.addr _ c.requires) (search rules)
