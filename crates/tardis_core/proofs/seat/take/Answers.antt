use Rattle.std.proofs.Common.{◌≡◌, Some, rules}
use Rattle.core_machine.specs.SeatParts.{SeatParts}
use Rattle.tardis_core.specs.inner.Seating.{seat}
use Rattle.tardis_core.proofs.Takes.{leads_take}
use Rattle.tardis_core.proofs.seat.take.Goals as goal

pub returns-clause-leads : goal.returns-clause-leads
returns-clause-leads c =
    let was : SeatParts = seat c.args.unit.now c.args.kept.now in
    let served : was.kept ≡ Some c.in-Some.reply = search rules in
    leads_take was c.replays.ensures.capacity c.in_ok-outcome.outcome c.take.new.self c.in-Some.reply served c.in_ok-outcome.ensures.outcome
