use Rattle.std.proofs.Common.{◌+◌}
use Rattle.refutation.proofs.Leaving.{right_next, answer-after}
use Rattle.refutation.proofs.refuting.first_wrong_step.Goals as goal

pub returns-in_default-2-clause-first : goal.returns-in_default-2-clause-first
returns-in_default-2-clause-first c =
    let now = c.loop-place in
    let many = rw c.as_slice-steps.ensures at c.loop-place-test.true in
    let is = rw c.as_slice-steps.ensures at c.index-steps-place.is in
    let gives = rw (c.in-Some.is, c.facts.ensures) at c.in_ok-given.ensures in
    let left = rw c.in_default-2.is at c.in_ok-left.ensures in
    let next = right_next c.args.trace.now c.args.refutation.now now.place now.cases.facts now.cases.others _ _ many is now.invariant gives in
    let right = rw left at next in
    answer-after c.args.trace.now c.args.refutation.now (now.place + 1) c.then_some.result right (rw c.as_slice-steps.ensures at c.then_some.ensures)
