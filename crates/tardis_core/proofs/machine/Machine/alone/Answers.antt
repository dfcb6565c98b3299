use Rattle.std.proofs.Common.{refl, arith}
use Rattle.std.proofs.lemmas.Result.{err_from_is_err_and}
use Rattle.core_machine.proofs.Alone.{leads_nowhere, own_event, alone_ok, alone_err, leads_ok, leads_err}
use Rattle.core_machine.proofs.Leading.{seat_kept}
use Rattle.machine_laws.proofs.Refusing.{seat_room}
use Rattle.tardis_core.specs.inner.Seating.{parts, seat}
use Rattle.tardis_core.proofs.Seating.{free, nowhere, seat_at, seated_again, seats_set}
use Rattle.tardis_core.proofs.machine.Machine.alone.Goals as goal

pub returns-in_default : goal.returns-in_default
returns-in_default c =
    let was = parts c.self.inside.config c.self.inside.units.items c.self.inside.kept.items c.self.inside.slices.items in
    let none = nowhere c.self.inside.units.items c.self.inside.kept.items c.args.core c.get-at.result c.get-at.ensures.value c.in_default.ensures.item.3 in
    record {
      outcome = rw (← c.self.view_is, none) (refl, refl);
      leads = rw (← c.self.view_is) (leads_nowhere was c.args.core c.args.event.now c.requires.own none);
    }

pub perform-requires : goal.perform-requires
perform-requires c =
    let was = parts c.self.inside.config c.self.inside.units.items c.self.inside.kept.items c.self.inside.slices.items in
    let s = seat c.index_mut-unit.result.now c.in-Some.kept.now in
    let there = seat_at c.self.inside.units.items c.self.inside.kept.items c.args.core c.get-at.result c.get-at.ensures.value c.index_mut-unit.result.now c.in-Some.kept.now (omega (arith, c.in-Some.ensures.item.3.0, c.self.invariant.one_each)) c.index_mut-unit.ensures.value c.in-Some.ensures.item.3.0 c.in-Some.ensures.value in
    record {
      own = own_event was c.args.core c.self.invariant.machine.placed s there c.args.event.now c.requires.own;
      alone = c.requires.alone;
      free = free was c.self.invariant.machine c.args.core s there;
    }

pub invariant_of-self-in_err-perform : goal.invariant_of-self-in_err-perform
invariant_of-self-in_err-perform c =
    let was = parts c.self.inside.config c.self.inside.units.items c.self.inside.kept.items c.self.inside.slices.items in
    let s = seat c.index_mut-unit.result.now c.in-Some.kept.now in
    let there = seat_at c.self.inside.units.items c.self.inside.kept.items c.args.core c.get-at.result c.get-at.ensures.value c.index_mut-unit.result.now c.in-Some.kept.now (omega (arith, c.in-Some.ensures.item.3.0, c.self.invariant.one_each)) c.index_mut-unit.ensures.value c.in-Some.ensures.item.3.0 c.in-Some.ensures.value in
    let t = seat c.perform.new.unit c.perform.new.kept in
    let led = leads_err was c.args.core c.self.invariant.machine.placed s there c.args.event.now c.requires.own c.in_err-perform.field-0.0 t c.in_err-perform.ensures.outcome c.in_err-perform.ensures.leads in
    let fits = seat_room was.config c.args.event.now s t _ c.in_err-perform.ensures.outcome (c.self.invariant.machine.room c.args.core s there) in
    rw c.get-at.ensures.value (seated_again c.self.inside.config c.self.inside.units.items c.self.inside.kept.items c.self.inside.slices.items c.args.core c.perform.new.unit c.perform.new.kept c.self.invariant
    (seat_kept was c.args.core c.self.invariant.machine s there t c.in_err-perform.ensures.same fits c.args.event.now _ led))

pub returns-in_err-perform : goal.returns-in_err-perform
returns-in_err-perform c =
    let was = parts c.self.inside.config c.self.inside.units.items c.self.inside.kept.items c.self.inside.slices.items in
    let s = seat c.index_mut-unit.result.now c.in-Some.kept.now in
    let there = seat_at c.self.inside.units.items c.self.inside.kept.items c.args.core c.get-at.result c.get-at.ensures.value c.index_mut-unit.result.now c.in-Some.kept.now (omega (arith, c.in-Some.ensures.item.3.0, c.self.invariant.one_each)) c.index_mut-unit.ensures.value c.in-Some.ensures.item.3.0 c.in-Some.ensures.value in
    let t = seat c.perform.new.unit c.perform.new.kept in
    let p = err_from_is_err_and c.from_residual.result c.from_residual.ensures.1 in
    record {
      outcome = rw (p.1, p.2, ← c.self.view_is, c.get-at.ensures.value, seats_set) (alone_err was c.args.core c.self.invariant.machine.placed s there c.args.event.now c.in_err-perform.field-0.0 t c.in_err-perform.ensures.outcome);
      leads = rw (p.1, p.2, ← c.self.view_is, c.get-at.ensures.value, seats_set) (leads_err was c.args.core c.self.invariant.machine.placed s there c.args.event.now c.requires.own c.in_err-perform.field-0.0 t c.in_err-perform.ensures.outcome c.in_err-perform.ensures.leads);
    }

pub invariant_of-self-2 : goal.invariant_of-self-2
invariant_of-self-2 c =
    let was = parts c.self.inside.config c.self.inside.units.items c.self.inside.kept.items c.self.inside.slices.items in
    let s = seat c.index_mut-unit.result.now c.in-Some.kept.now in
    let there = seat_at c.self.inside.units.items c.self.inside.kept.items c.args.core c.get-at.result c.get-at.ensures.value c.index_mut-unit.result.now c.in-Some.kept.now (omega (arith, c.in-Some.ensures.item.3.0, c.self.invariant.one_each)) c.index_mut-unit.ensures.value c.in-Some.ensures.item.3.0 c.in-Some.ensures.value in
    let t = seat c.perform.new.unit c.perform.new.kept in
    let led = leads_ok was c.args.core c.self.invariant.machine.placed s there c.args.event.now c.requires.own c.in_ok-perform.field-0 t c.in_ok-perform.ensures.leads in
    let fits = seat_room was.config c.args.event.now s t _ c.in_ok-perform.ensures.outcome (c.self.invariant.machine.room c.args.core s there) in
    rw c.get-at.ensures.value (seated_again c.self.inside.config c.self.inside.units.items c.self.inside.kept.items c.self.inside.slices.items c.args.core c.perform.new.unit c.perform.new.kept c.self.invariant
    (seat_kept was c.args.core c.self.invariant.machine s there t c.in_ok-perform.ensures.same fits c.args.event.now _ led))

pub returns : goal.returns
returns c =
    let was = parts c.self.inside.config c.self.inside.units.items c.self.inside.kept.items c.self.inside.slices.items in
    let s = seat c.index_mut-unit.result.now c.in-Some.kept.now in
    let there = seat_at c.self.inside.units.items c.self.inside.kept.items c.args.core c.get-at.result c.get-at.ensures.value c.index_mut-unit.result.now c.in-Some.kept.now (omega (arith, c.in-Some.ensures.item.3.0, c.self.invariant.one_each)) c.index_mut-unit.ensures.value c.in-Some.ensures.item.3.0 c.in-Some.ensures.value in
    let t = seat c.perform.new.unit c.perform.new.kept in
    record {
      outcome = rw (← c.self.view_is, c.get-at.ensures.value, seats_set) (alone_ok was c.args.core c.self.invariant.machine.placed s there c.args.event.now c.in_ok-perform.field-0 t c.in_ok-perform.ensures.outcome);
      leads = rw (← c.self.view_is, c.get-at.ensures.value, seats_set) (leads_ok was c.args.core c.self.invariant.machine.placed s there c.args.event.now c.requires.own c.in_ok-perform.field-0 t c.in_ok-perform.ensures.leads);
    }
