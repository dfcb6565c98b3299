use Rattle.std.proofs.Common.{◌<◌, length, refl}
use Rattle.manager_slice.specs.Limits.{entry_limit}
use Rattle.line_stamps.specs.Messages.{addr_of}
use Rattle.private_cache.specs.Steps.{fill_line}
use Rattle.core_unit.specs.Parts.{UnitParts}
use Rattle.core_unit.proofs.Found.{some_and, fill_without_room}
use Rattle.core_unit.proofs.Keeping.{kept_taken}
use Rattle.core_unit.proofs.unit.CoreUnit.fill.Goals as goal

pub invariant_of-self-2 : goal.invariant_of-self-2
invariant_of-self-2 c =
    let was : UnitParts = record { core = c.self.inside.core; program = c.self.inside.program; config = c.self.inside.config; state = c.self.inside.state; pts = c.self.inside.pts; r = c.self.inside.r; cache = c.self.inside.cache; hand = c.self.inside.hand; transcript = c.self.inside.transcript.entries; log = c.self.inside.log.items } in
    let room : length was.transcript < entry_limit = c.in_default.ensures.fits in
    let held_in = rw (← c.self.view_is) at c.requires.hand in
    let made = some_and (fill_line was.cache (addr_of c.args.message.now) c.args.reply.now) _ (rw c.addr-addr.ensures at c.in_ok-fill.ensures.ok) in
    rw (c.push.ensures, c.in_default.ensures.entries, made.2) (kept_taken was c.self.invariant room c.args.message.now held_in c.args.reply.now made.0 c.requires.kind made.1)

pub returns-then-fits-clause-outcome : goal.returns-then-fits-clause-outcome
returns-then-fits-clause-outcome c =
    let there = rw c.addr-addr.ensures at c.if-fits.ensures.0 refl in
    rw (← c.self.view_is, c.in-Err.ensures.entries)
    (fill_without_room _ c.args.message.now c.args.reply.now (fill_line c.self.inside.cache (addr_of c.args.message.now) c.args.reply.now) c.in-Err.refused there c.in-Err.ensures.refused)
