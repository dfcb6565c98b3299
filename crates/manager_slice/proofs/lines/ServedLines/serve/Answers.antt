use Rattle.std.proofs.Common.{arith}
use Rattle.manager_slice.proofs.Entries.{put_entries-front}
use Rattle.manager_slice.proofs.lines.ServedLines.serve.Goals as goal

pub returns-clause-ok : goal.returns-clause-ok
returns-clause-ok c =
    rw (← c.self.view_is, c.in_ok-put.ensures.entries) (put_entries-front c.args.addr c.self.inside.lines c.args.line (rw c.self.invariant (omega arith)))
