use Rattle.std.proofs.Common.{◌+◌, ◌≤◌, length, arith}
use Rattle.manager_slice.specs.Limits.{entry_limit}
use Rattle.manager_slice.specs.Parts.{SliceParts}
use Rattle.manager_slice.proofs.Kept.{evicts_another, handled_answer, kept_answer, length-entries_of}
use Rattle.manager_slice.specs.Changes.{entries_of}
use Rattle.manager_slice.proofs.slice.ManagerSlice.answer.Goals.{then-is_some, else-is_some}
use Rattle.manager_slice.proofs.slice.ManagerSlice.answer.Goals as goal

pub serve-requires : goal.serve-requires
serve-requires c =
    let was : SliceParts = record { number = c.self.inside.number; config = c.self.inside.config; state = c.self.inside.state; history = c.self.inside.history.items } in
    rw c.addr.ensures (evicts_another was c.self.invariant c.args.from c.args.message.now c.args.evicted.now c.args.reply.now c.args.line.now (rw (← c.self.view_is) at c.requires))

pub invariant_of-self-2 : goal.invariant_of-self-2
invariant_of-self-2 c =
    let was : SliceParts = record { number = c.self.inside.number; config = c.self.inside.config; state = c.self.inside.state; history = c.self.inside.history.items } in
    let count = length-entries_of c.args.evicted.now c.args.from c.args.message.now c.args.reply.now in
    let few : length was.history + length (entries_of c.args.evicted.now c.args.from c.args.message.now c.args.reply.now) ≤ entry_limit =
    elim c.if-is_some.branch [
      | then-is_some w ↦ let two = rw (← w.if-is_some.ensures) at count in omega (arith, c.in_ok-reserve.ensures.fits)
      | else-is_some w ↦ let one = rw (← w.if-is_some.ensures) at count in omega (arith, c.in_ok-reserve.ensures.fits)
    ] in
    rw (c.append.ensures, c.in_ok-reserve.ensures.items, c.in_ok-serve.ensures.ok, c.addr.ensures) (kept_answer was c.self.invariant c.args.from c.args.message.now c.args.evicted.now c.args.reply.now c.args.line.now (rw (← c.self.view_is) at c.requires) few)

pub returns-clause-table : goal.returns-clause-table
returns-clause-table c =
    let was : SliceParts = record { number = c.self.inside.number; config = c.self.inside.config; state = c.self.inside.state; history = c.self.inside.history.items } in
    rw (← c.self.view_is, c.append.ensures, c.in_ok-reserve.ensures.items, c.in_ok-serve.ensures.ok, c.addr.ensures) (handled_answer was c.self.invariant c.args.from c.args.message.now c.args.evicted.now c.args.reply.now c.args.line.now (rw (← c.self.view_is) at c.requires))
