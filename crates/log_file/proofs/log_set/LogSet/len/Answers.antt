-- A log has one end.
use Rattle.std.proofs.Common.{arith}
use Rattle.log_file.proofs.Joined.{ends_many, set_kept}
use Rattle.log_file.proofs.log_set.LogSet.len.Goals as goal

pub returns-clause-len : goal.returns-clause-len
returns-clause-len c =
    let kept = set_kept c.self.inside c.self.view_is c.self.invariant in
    omega (arith, c.len.ensures, c.self.inside.ends.ok.0, ends_many kept.0)

pub returns-clause-few : goal.returns-clause-few
returns-clause-few c =
    let kept = set_kept c.self.inside c.self.view_is c.self.invariant in
    omega (arith, c.len.ensures, c.self.inside.ends.ok.0, ends_many kept.0, kept.1.few)
