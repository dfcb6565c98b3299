use Rattle.std.proofs.Common.{◌<◌, length}
use Rattle.manager_slice.specs.Limits.{entry_limit}
use Rattle.core_unit.specs.Parts.{UnitParts}
use Rattle.core_unit.proofs.Keeping.{kept_given_up}
use Rattle.core_unit.proofs.unit.CoreUnit.end_give_back.Goals as goal

pub invariant_of-self-2 : goal.invariant_of-self-2
invariant_of-self-2 c =
    let was : UnitParts = record { core = c.self.inside.core; program = c.self.inside.program; config = c.self.inside.config; state = c.self.inside.state; pts = c.self.inside.pts; r = c.self.inside.r; cache = c.self.inside.cache; hand = c.self.inside.hand; transcript = c.self.inside.transcript.entries; log = c.self.inside.log.items } in
    let room : length was.transcript < entry_limit = c.in_ok-make_room.ensures.fits in
    let held_in = rw (← c.self.view_is) at c.requires.hand in
    rw (c.push.ensures, c.in_ok-make_room.ensures.entries) (kept_given_up was c.self.invariant room c.args.message.now held_in c.requires.gives)
