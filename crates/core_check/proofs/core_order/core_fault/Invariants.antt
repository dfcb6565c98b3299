-- No index before `i` is a core fault.
use Rattle.std.proofs.Common.{◌≡◌, ◌<◌, ℕ, false}
use Rattle.core_check.specs.CoreOrder.{is_core_fault}
use Rattle.core_check.proofs.core_order.core_fault.Given as goal

abbrev pub invariant-loop-i : goal.invariant-loop-i
invariant-loop-i g l = (k : ℕ) → k < l.i → is_core_fault (g.L.Logged.records_of l.log) k ≡ false
