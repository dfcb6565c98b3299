use Rattle.std.proofs.Common.{rules, ◌≡◌, false, sym, arith}
use Rattle.litmus.specs.Outcomes.{is_outcome}
use Rattle.litmus.proofs.Forbids.{any_found, any_more}
use Rattle.litmus.proofs.test.Litmus.forbids.Goals as goal

pub returns-then-eq : goal.returns-then-eq
returns-then-eq c =
    rw (← c.self.view_is, ← c.deref-values-items.ensures.value)
    (sym (any_found (is_outcome c.args.outcome.now) c.deref-values-items.result.now c.loop-values.values-index c.values-item.result c.loop-values-test.true c.values-item.is (search rules)))

pub loop-values-preserved : goal.loop-values-preserved
loop-values-preserved c =
    let none = rw (← c.self.view_is, ← c.deref-values-items.ensures.value) at c.loop-values.invariant in
    rw (← c.self.view_is, ← c.deref-values-items.ensures.value)
    (any_more (is_outcome c.args.outcome.now) c.deref-values-items.result.now c.loop-values.values-index c.values-item.result c.loop-values-test.true c.values-item.is none (search rules))
