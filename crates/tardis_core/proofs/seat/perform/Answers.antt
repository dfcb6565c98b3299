use Rattle.std.proofs.lemmas.Option.{same_Some}
use Rattle.core_machine.specs.SeatParts.{SeatParts}
use Rattle.tardis_core.specs.inner.Seating.{seat}
use Rattle.tardis_core.proofs.Leading.{leads_evict, leads_increment, leads_recall, leads_turn}
use Rattle.tardis_core.proofs.seat.perform.Goals as goal

pub returns-in-Turn-clause-leads : goal.returns-in-Turn-clause-leads
returns-in-Turn-clause-leads c =
    let was : SeatParts = seat c.args.unit.now c.args.kept.now in
    let own = same_Some _ _ (rw c.in-Turn.is at c.requires.own) in
    rw (c.in-Turn.is, own) (leads_turn was c.turn.result c.turn.new.self c.requires.free c.replays.ensures.capacity c.turn.ensures.barred c.turn.ensures.outcome)

pub returns-in-Recall-clause-leads : goal.returns-in-Recall-clause-leads
returns-in-Recall-clause-leads c =
    let was : SeatParts = seat c.args.unit.now c.args.kept.now in
    let own = same_Some _ _ (rw c.in-Recall.is at c.requires.own) in
    rw (c.in-Recall.is, own) (leads_recall was c.recall.result c.recall.new.self c.requires.free c.in-Recall.recall c.recall.ensures.outcome)

pub returns-in-Evict-clause-leads : goal.returns-in-Evict-clause-leads
returns-in-Evict-clause-leads c =
    let was : SeatParts = seat c.args.unit.now c.args.kept.now in
    let own = same_Some _ _ (rw c.in-Evict.is at c.requires.own) in
    rw (c.in-Evict.is, own) (leads_evict was c.evict.result c.evict.new.self c.requires.free c.in-Evict.addr c.evict.ensures.outcome)

pub returns-in-Increment-clause-leads : goal.returns-in-Increment-clause-leads
returns-in-Increment-clause-leads c =
    let was : SeatParts = seat c.args.unit.now c.args.kept.now in
    let own = same_Some _ _ (rw c.in-Increment.is at c.requires.own) in
    rw (c.in-Increment.is, own) (leads_increment was c.increment.result c.increment.new.self c.requires.free c.increment.ensures.outcome)
