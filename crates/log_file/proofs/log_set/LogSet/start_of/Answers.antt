-- The entries of a log begin where those of the log before it end.
use Rattle.std.proofs.Common.{◌≡◌, ◌∙◌, ◌<◌, ◌-◌, suc, ap, arith, length}
use Rattle.log_file.specs.SetKeeping.{start_in}
use Rattle.log_file.proofs.Joined.{ends_many, next_start, set_kept}
use Rattle.log_file.proofs.log_set.LogSet.start_of.Goals as goal

pub index-requires : goal.index-requires
index-requires c =
    let kept = set_kept c.self.inside c.self.view_is c.self.invariant in
    omega (arith, ends_many kept.0, c.requires, c.if-place-eq0.false, c.self.inside.ends.ok.0)

pub returns : goal.returns
returns c =
    let kept = set_kept c.self.inside c.self.view_is c.self.invariant in
    let before : c.args.place - 1 < length c.self.inside.ends.items = omega (arith, ends_many kept.0, c.requires, c.if-place-eq0.false) in
    next_start kept.0 (c.args.place - 1) c.index.result.now before c.index.ensures
    ∙ ap (start_in c.args.self.now) (let z : suc (c.args.place - 1) ≡ c.args.place = omega (arith, c.if-place-eq0.false) in z)
