-- One more record.
use Rattle.std.proofs.Common.{arith}
use Rattle.address_check.specs.contracts.fault.AddressFaultOrd.TheImpl.{ghosts}
use Rattle.address_check.proofs.StorePass.{fault_at, last_more, least_more, lesser_none}
use Rattle.address_check.proofs.group.part_fault.Goals as goal
use Rattle.address_check.proofs.group.part_fault.Goals.{in-Some, in_default, then-writes, else-writes}

pub loop-entry-preserved : goal.loop-entry-preserved
loop-entry-preserved c =
    let es = c.args.part.now in
    let k = c.loop-entry.entry-index in
    let e = c.entry-item.result in
    let right = fault_at es k e c.requires (omega arith) c.entry-item.is in
    let last = last_more es k e (omega arith) c.entry-item.is in
    let least = least_more es k e (omega arith) c.entry-item.is in (
      elim c.if-writes.branch [ then-writes w ↦ grind arith | else-writes w ↦ grind arith ],
      elim c.match-entry_rule.branch [ in-Some w ↦ grind arith | in_default w ↦ grind (arith, lesser_none ghosts.cmp c.loop-entry.least) ],
    )
