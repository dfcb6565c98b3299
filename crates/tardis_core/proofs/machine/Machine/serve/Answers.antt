use Rattle.std.proofs.Common.{◌≡◌, ℕ, ◌<◌, Some, length, refl, sym, ap, ◌∙◌, arith}
use Rattle.std.specs.Option.{option_copied}
use Rattle.std.proofs.lemmas.List.{length-set}
use Rattle.std.proofs.lemmas.Result.{err_from_is_err_and}
use Rattle.core_machine.specs.Machine.{slice_number}
use Rattle.core_machine.specs.SeatParts.{SeatParts}
use Rattle.core_machine.proofs.Alone.{leads_nowhere}
use Rattle.core_machine.proofs.Leading.{reached_on, room_kept}
use Rattle.core_machine.proofs.Placed.{stands, map-set_same}
use Rattle.core_machine.proofs.Serving.{idle_outcome, leads_idle, served_ok, served_err, leads_refused_serve, leads_served, kept_served}
use Rattle.core_machine.specs.declared.event.Event.TheVariants as event
use Rattle.tardis_core.specs.inner.Seating.{parts, seat}
use Rattle.tardis_core.proofs.Seating.{nowhere, seat_at, seats_keep, unit_at}
use Rattle.tardis_core.proofs.machine.Machine.serve.Goals as goal

pub returns-in_default : goal.returns-in_default
returns-in_default c =
    let was = parts c.self.inside.config c.self.inside.units.items c.self.inside.kept.items c.self.inside.slices.items in
    let none = nowhere c.self.inside.units.items c.self.inside.kept.items c.args.core c.get-at.result c.get-at.ensures.value c.in_default.ensures.item.3 in
    record {
      outcome = rw (← c.self.view_is, none) (refl, refl);
      leads = rw (← c.self.view_is) (leads_nowhere was c.args.core (event.Serve c.args.core) refl none);
    }

pub returns-in_default-asking : goal.returns-in_default-asking
returns-in_default-asking c =
    let was = parts c.self.inside.config c.self.inside.units.items c.self.inside.kept.items c.self.inside.slices.items in
    let s = seat c.index-unit.result.now c.in-Some.kept.now in
    let unit = unit_at c.self.inside.units.items c.self.inside.kept.items c.args.core c.get-at.result c.get-at.ensures.value c.index-unit.result.now (omega (arith, c.in-Some.ensures.item.3.0, c.self.invariant.one_each)) c.index-unit.ensures in
    let there = seat_at c.self.inside.units.items c.self.inside.kept.items c.args.core c.get-at.result c.get-at.ensures.value c.index-unit.result.now c.in-Some.kept.now (omega (arith, c.in-Some.ensures.item.3.0, c.self.invariant.one_each)) c.index-unit.ensures c.in-Some.ensures.item.3.0 c.in-Some.ensures.value in
    let idle = sym c.asking.ensures ∙ ap option_copied c.in_default-asking.is in
    record {
      outcome = rw (← c.self.view_is, c.get-at.ensures.value, seats_keep c.self.inside.units.items c.self.inside.kept.items c.args.core c.index-unit.result.now c.in-Some.kept.now unit) (idle_outcome was c.self.invariant.machine.placed c.args.core s there idle);
      leads = rw (← c.self.view_is, c.get-at.ensures.value, seats_keep c.self.inside.units.items c.self.inside.kept.items c.args.core c.index-unit.result.now c.in-Some.kept.now unit) (leads_idle was c.self.invariant.machine.placed c.args.core s there idle);
    }

pub returns-in_err-reply : goal.returns-in_err-reply
returns-in_err-reply c =
    let was = parts c.self.inside.config c.self.inside.units.items c.self.inside.kept.items c.self.inside.slices.items in
    let s = seat c.index-unit.result.now c.in-Some.kept.now in
    let unit = unit_at c.self.inside.units.items c.self.inside.kept.items c.args.core c.get-at.result c.get-at.ensures.value c.index-unit.result.now (omega (arith, c.in-Some.ensures.item.3.0, c.self.invariant.one_each)) c.index-unit.ensures in
    let there = seat_at c.self.inside.units.items c.self.inside.kept.items c.args.core c.get-at.result c.get-at.ensures.value c.index-unit.result.now c.in-Some.kept.now (omega (arith, c.in-Some.ensures.item.3.0, c.self.invariant.one_each)) c.index-unit.ensures c.in-Some.ensures.item.3.0 c.in-Some.ensures.value in
    let asked = sym c.asking.ensures ∙ ap option_copied c.in-Some-asking.is in
    let below : c.slice_of.result < length was.slices = omega (arith, c.slice_of.ensures.in_range, c.self.invariant.machine.placed.count) in
    let at = stands was.slices c.slice_of.result c.slice_of.result c.index_mut-slice.result.now refl below c.index_mut-slice.ensures.value in
    let number = c.slice_of.ensures.value ∙ ap (λ (a : ℕ). slice_number was.config a) c.addr.ensures in
    let p = err_from_is_err_and c.from_residual.result c.from_residual.ensures.1 in
    record {
      outcome = rw (p.1, p.2, ← c.self.view_is, c.get-at.ensures.value, seats_keep c.self.inside.units.items c.self.inside.kept.items c.args.core c.index-unit.result.now c.in-Some.kept.now unit) (served_err was c.self.invariant.machine.placed c.args.core s there c.in-Some-asking.message.now asked c.slice_of.result number c.index_mut-slice.result.now at c.in_err-reply.field-0.0 c.handle.new.self c.in_err-reply.ensures.outcome);
      leads = rw (p.1, p.2, ← c.self.view_is, c.get-at.ensures.value, seats_keep c.self.inside.units.items c.self.inside.kept.items c.args.core c.index-unit.result.now c.in-Some.kept.now unit) (leads_refused_serve was c.self.invariant.machine.placed c.args.core s there c.in-Some-asking.message.now asked c.slice_of.result number c.index_mut-slice.result.now at c.in_err-reply.field-0.0 c.handle.new.self c.in_err-reply.ensures.refused);
    }

pub invariant_of-self-2 : goal.invariant_of-self-2
invariant_of-self-2 c =
    let was = parts c.self.inside.config c.self.inside.units.items c.self.inside.kept.items c.self.inside.slices.items in
    let s = seat c.index-unit.result.now c.in-Some.kept.now in
    let unit = unit_at c.self.inside.units.items c.self.inside.kept.items c.args.core c.get-at.result c.get-at.ensures.value c.index-unit.result.now (omega (arith, c.in-Some.ensures.item.3.0, c.self.invariant.one_each)) c.index-unit.ensures in
    let there = seat_at c.self.inside.units.items c.self.inside.kept.items c.args.core c.get-at.result c.get-at.ensures.value c.index-unit.result.now c.in-Some.kept.now (omega (arith, c.in-Some.ensures.item.3.0, c.self.invariant.one_each)) c.index-unit.ensures c.in-Some.ensures.item.3.0 c.in-Some.ensures.value in
    let asked = sym c.asking.ensures ∙ ap option_copied c.in-Some-asking.is in
    let below : c.slice_of.result < length was.slices = omega (arith, c.slice_of.ensures.in_range, c.self.invariant.machine.placed.count) in
    let at = stands was.slices c.slice_of.result c.slice_of.result c.index_mut-slice.result.now refl below c.index_mut-slice.ensures.value in
    let number = c.slice_of.ensures.value ∙ ap (λ (a : ℕ). slice_number was.config a) c.addr.ensures in
    let handled = c.in_ok-reply.ensures.table in
    let led = leads_served was c.self.invariant.machine.placed c.args.core s there c.in-Some-asking.message.now asked c.slice_of.result number c.index_mut-slice.result.now at c.in_ok-reply.field-0 c.handle.new.self handled in
    let answered : SeatParts = seat c.index-unit.result.now (Some c.in_ok-reply.field-0) in
    rw c.get-at.ensures.value (record {
      one_each = length-set c.self.inside.kept.items c.args.core (Some c.in_ok-reply.field-0) ∙ c.self.invariant.one_each;
      machine = rw (seats_keep c.self.inside.units.items c.self.inside.kept.items c.args.core c.index-unit.result.now (Some c.in_ok-reply.field-0) unit) (record {
        placed = kept_served was c.self.invariant.machine.placed c.args.core s there c.in-Some-asking.message.now asked c.slice_of.result number c.index_mut-slice.result.now at c.in_ok-reply.field-0 c.handle.new.self handled.number handled.config;
        reached = reached_on (event.Serve c.args.core) was _ _ led (map-set_same (λ (x : SeatParts). x.unit.program) was.seats c.args.core s answered there refl) c.self.invariant.machine.reached;
        room = room_kept was c.args.core answered c.self.invariant.machine.room (c.self.invariant.machine.room c.args.core s there);
      });
    })

pub returns : goal.returns
returns c =
    let was = parts c.self.inside.config c.self.inside.units.items c.self.inside.kept.items c.self.inside.slices.items in
    let s = seat c.index-unit.result.now c.in-Some.kept.now in
    let unit = unit_at c.self.inside.units.items c.self.inside.kept.items c.args.core c.get-at.result c.get-at.ensures.value c.index-unit.result.now (omega (arith, c.in-Some.ensures.item.3.0, c.self.invariant.one_each)) c.index-unit.ensures in
    let there = seat_at c.self.inside.units.items c.self.inside.kept.items c.args.core c.get-at.result c.get-at.ensures.value c.index-unit.result.now c.in-Some.kept.now (omega (arith, c.in-Some.ensures.item.3.0, c.self.invariant.one_each)) c.index-unit.ensures c.in-Some.ensures.item.3.0 c.in-Some.ensures.value in
    let asked = sym c.asking.ensures ∙ ap option_copied c.in-Some-asking.is in
    let below : c.slice_of.result < length was.slices = omega (arith, c.slice_of.ensures.in_range, c.self.invariant.machine.placed.count) in
    let at = stands was.slices c.slice_of.result c.slice_of.result c.index_mut-slice.result.now refl below c.index_mut-slice.ensures.value in
    let number = c.slice_of.ensures.value ∙ ap (λ (a : ℕ). slice_number was.config a) c.addr.ensures in
    record {
      outcome = rw (← c.self.view_is, c.get-at.ensures.value, seats_keep c.self.inside.units.items c.self.inside.kept.items c.args.core c.index-unit.result.now (Some c.in_ok-reply.field-0) unit) (served_ok was c.self.invariant.machine.placed c.args.core s there c.in-Some-asking.message.now asked c.slice_of.result number c.index_mut-slice.result.now at c.in_ok-reply.field-0 c.handle.new.self c.in_ok-reply.ensures.outcome);
      leads = rw (← c.self.view_is, c.get-at.ensures.value, seats_keep c.self.inside.units.items c.self.inside.kept.items c.args.core c.index-unit.result.now (Some c.in_ok-reply.field-0) unit) (leads_served was c.self.invariant.machine.placed c.args.core s there c.in-Some-asking.message.now asked c.slice_of.result number c.index_mut-slice.result.now at c.in_ok-reply.field-0 c.handle.new.self c.in_ok-reply.ensures.table);
    }
