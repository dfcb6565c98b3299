use Rattle.std.proofs.Common.{◌≤◌, ◌+◌, ◌-◌, vec_len}
use Rattle.flat_replay.specs.Accesses.{operation_lists}
use Rattle.trace.specs.inner.Widening.{IsWidened}
use Rattle.trace.proofs.trace.widen.Given as goal

abbrev pub invariant-loop-alloc : goal.invariant-loop-alloc
invariant-loop-alloc l =
    IsWidened l.place (operation_lists l.fn.cores.items) (operation_lists l.cores.items)
    × (vec_len l.fn.cores ≤ 64 → vec_len l.cores ≤ 64)

abbrev pub decreases-loop-alloc : goal.decreases-loop-alloc
decreases-loop-alloc l = l.place + 1 - vec_len l.cores
