use Rattle.std.proofs.Common.{None}
use Rattle.mem_op.specs.declared.id.Op.TheVariants as op
use Rattle.mem_op.specs.declared.id.Source.TheVariants as source
use Rattle.core_unit.specs.Core.{next_id, tries}
use Rattle.core_unit.specs.Parts.{UnitParts, core_of}
use Rattle.core_unit.proofs.Looks.{store_looks, swap_looks}
use Rattle.core_unit.proofs.unit.CoreUnit.look.Goals as goal

pub returns-in-Store : goal.returns-in-Store
returns-in-Store c =
    let was : UnitParts = record { core = c.self.inside.core; program = c.self.inside.program; config = c.self.inside.config; state = c.self.inside.state; pts = c.self.inside.pts; r = c.self.inside.r; cache = c.self.inside.cache; hand = c.self.inside.hand; transcript = c.self.inside.transcript.entries; log = c.self.inside.log.items } in
    let u = core_of was None in
    let x = op.Store c.in-Store.addr c.in-Store.field-1 in
    rw (c.in-Store.is, ← c.self.view_is)
    (store_looks u c.in-Store.addr c.in-Store.field-1 (tries was.core u x) c.peek_swap.result (c.peek_swap.ensures c.in-Store.field-1 (source.Store (next_id was.core u))))

pub returns-in-Swap : goal.returns-in-Swap
returns-in-Swap c =
    let was : UnitParts = record { core = c.self.inside.core; program = c.self.inside.program; config = c.self.inside.config; state = c.self.inside.state; pts = c.self.inside.pts; r = c.self.inside.r; cache = c.self.inside.cache; hand = c.self.inside.hand; transcript = c.self.inside.transcript.entries; log = c.self.inside.log.items } in
    let u = core_of was None in
    let x = op.Swap c.in-Swap.addr c.in-Swap.field-1 in
    rw (c.in-Swap.is, ← c.self.view_is)
    (swap_looks u c.in-Swap.addr c.in-Swap.field-1 (tries was.core u x) c.peek_swap-in-Swap.result (c.peek_swap-in-Swap.ensures c.in-Swap.field-1 (source.Store (next_id was.core u))))
