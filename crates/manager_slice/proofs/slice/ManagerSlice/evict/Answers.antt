use Rattle.std.proofs.Common.{arith, rules}
use Rattle.manager_slice.specs.Parts.{SliceParts}
use Rattle.manager_slice.proofs.Kept.{evicted_spill, kept_spill}
use Rattle.manager_slice.proofs.slice.ManagerSlice.evict.Goals as goal

pub invariant_of-self-2 : goal.invariant_of-self-2
invariant_of-self-2 c =
    let was : SliceParts = record { number = c.self.inside.number; config = c.self.inside.config; state = c.self.inside.state; history = c.self.inside.history.items } in
    rw (c.push_copy.ensures.items, c.in_ok-reserve.ensures.items, c.in_ok-evict.ensures.ok) (kept_spill was c.self.invariant c.args.addr c.in-Some-Shared.line (search rules) (omega (arith, c.in_ok-reserve.ensures.fits)))

pub returns-clause-table : goal.returns-clause-table
returns-clause-table c =
    let was : SliceParts = record { number = c.self.inside.number; config = c.self.inside.config; state = c.self.inside.state; history = c.self.inside.history.items } in
    rw (← c.self.view_is, c.push_copy.ensures.items, c.in_ok-reserve.ensures.items, c.in_ok-evict.ensures.ok) (evicted_spill was c.self.invariant c.args.addr c.in-Some-Shared.line (search rules))
