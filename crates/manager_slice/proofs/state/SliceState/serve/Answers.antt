use Rattle.std.proofs.Common.{refl}
use Rattle.manager_slice.proofs.Entries.{put_and_taken, put_then_taken}
use Rattle.manager_slice.proofs.state.SliceState.serve.Goals as goal

pub returns-in-Err-clause-err : goal.returns-in-Err-clause-err
returns-in-Err-clause-err c =
    let there = rw c.in-Some.is at c.requires in
    rw (c.remove.ensures, c.in_ok-serve.ensures.ok, put_and_taken c.args.addr c.args.self.now.lines c.args.line there.0, c.in-Err.ensures.err) refl

pub returns-clause-ok : goal.returns-clause-ok
returns-clause-ok c =
    let there = rw c.in-Some.is at c.requires in
    rw (c.remove-2.ensures, c.in_ok-serve.ensures.ok, c.in-Some.is, put_then_taken c.args.self.now.lines c.args.addr c.in-Some.victim c.args.line _ there.0 there.1, c.in_default-put_back.ensures.ok) refl
