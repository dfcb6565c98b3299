use Rattle.std.proofs.Common.{◌≡◌, length, vec_len, rules}
use Rattle.core_unit.proofs.Pushing.{entries_of-push}
use Rattle.core_unit.proofs.transcript.Transcript.push.Goals as goal

pub returns : goal.returns
returns c =
    let others = c.self.inside.others in
    let count : length others.items ≡ vec_len others = search rules in
    rw (c.push_reserved.ensures.items, c.push_other.ensures, c.len-place.ensures, ← c.self.view_is)
    (entries_of-push others.items (vec_len others) c.args.entry c.self.inside.kept.items c.self.invariant.within count)
