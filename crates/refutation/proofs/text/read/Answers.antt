use Rattle.std.proofs.Common.{refl, inl, inr, arith, ◌≡◌, length}
use Rattle.std.proofs.lemmas.Grind.{common_steps}
use Rattle.refutation.proofs.Fronts.{front-told}
use Rattle.refutation.proofs.text.read.Goals as goal

pub returns-in_default : goal.returns-in_default
returns-in_default c = inl (refl, (refl, c.in_default.ensures.none refl))

pub returns : goal.returns
returns c =
    let none = rw c.in_default-2.is at c.in_ok-behind.ensures in
    let counted : c.len.result ≡ length c.push_step.new.steps.items = grind (arith, common_steps) in
    inr (front-told c.args.text.now _ c.loop-steps.rest.now c.loop-steps.steps.items c.push_step.new.steps.items c.len.result c.bad_end-bad_line.result c.in-Some.ensures.found c.loop-steps.invariant none.0 none.1 counted c.bad_end-bad_line.ensures)
