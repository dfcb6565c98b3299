use Rattle.std.proofs.Common.{rules}
use Rattle.core_machine.proofs.Placed.{stands, stands_none}
use Rattle.tardis_core.proofs.Seating.{kept_is}
use Rattle.tardis_core.proofs.machine.Core.kept.Goals as goal

pub returns-in_err-kept : goal.returns-in_err-kept
returns-in_err-kept c =
    let kept = c.machine.inside.kept.items in
    let none = stands_none kept c.args.core c.get.result c.get.ensures.value (rw c.deref.ensures.value at c.in_err-kept.ensures.lookup.3) in
    rw (← c.self.view_is, ← c.machine.view_is, kept_is c.machine.inside.units.items kept c.args.core c.machine.invariant.one_each, none) (search rules)

pub returns : goal.returns
returns c =
    let kept = c.machine.inside.kept.items in
    let found = c.in_ok-kept.ensures.lookup in
    let at = stands kept c.args.core c.get.result c.in_ok-kept.kept.now c.get.ensures.value (rw c.deref.ensures.value at found.3.0) (rw c.deref.ensures.value at found.1) in
    rw (← c.self.view_is, ← c.machine.view_is, kept_is c.machine.inside.units.items kept c.args.core c.machine.invariant.one_each, at) (search rules)
