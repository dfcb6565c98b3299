use Rattle.std.proofs.Common.{None, ◌≡◌, ◌<◌, length, arith, rules}
use Rattle.manager_slice.specs.Limits.{entry_limit}
use Rattle.core_unit.specs.Parts.{UnitParts}
use Rattle.core_unit.proofs.Keeping.{kept_bumped}
use Rattle.core_unit.proofs.unit.CoreUnit.increment.Goals as goal

pub invariant_of-self-2 : goal.invariant_of-self-2
invariant_of-self-2 c =
    let was : UnitParts = record { core = c.self.inside.core; program = c.self.inside.program; config = c.self.inside.config; state = c.self.inside.state; pts = c.self.inside.pts; r = c.self.inside.r; cache = c.self.inside.cache; hand = c.self.inside.hand; transcript = c.self.inside.transcript.entries; log = c.self.inside.log.items } in
    let free : was.hand ≡ None = search rules in
    let room : length was.transcript < entry_limit = omega (arith, c.in_ok-check_room.ensures) in
    rw (c.push.ensures, c.in_ok-reserve.ensures.entries, c.in_ok-after.ensures.0) (kept_bumped was c.self.invariant room free)
