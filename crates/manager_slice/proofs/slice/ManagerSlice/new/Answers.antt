use Rattle.std.proofs.Common.{refl, arith}
use Rattle.manager_slice.proofs.Entries.{distinct_nil}
use Rattle.manager_slice.proofs.slice.ManagerSlice.new.Goals as goal

pub invariant_of-result : goal.invariant_of-result
invariant_of-result c =
    rw (c.new-2.ensures.items, c.in_ok-new.ensures) (record { replay = refl; distinct = distinct_nil; short = omega arith; room = omega arith })
