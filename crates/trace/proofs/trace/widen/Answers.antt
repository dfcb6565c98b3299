use Rattle.std.proofs.Common.{arith}
use Rattle.trace.proofs.Growth.{IsWidened_push}
use Rattle.trace.proofs.trace.widen.Goals as goal

pub loop-alloc-preserved : goal.loop-alloc-preserved
loop-alloc-preserved c = (
  rw c.in_ok-push.ensures.items
      (IsWidened_push _ _ _ _ c.new.ensures.items (omega (arith, c.loop-alloc-test.true)) c.loop-alloc.invariant.0),
  λ few. omega (arith, c.in_ok-push.ensures.len, c.requires, c.loop-alloc-test.true),
)
