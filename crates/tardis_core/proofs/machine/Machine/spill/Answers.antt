use Rattle.std.proofs.Common.{◌<◌, length, refl, arith}
use Rattle.std.proofs.lemmas.Result.{err_from_is_err_and}
use Rattle.core_machine.specs.declared.event.Event.TheVariants as event
use Rattle.core_machine.proofs.Leading.{reached_on}
use Rattle.core_machine.proofs.Placed.{stands}
use Rattle.core_machine.proofs.Serving.{kept_spilled, spilled_ok, spilled_err, leads_spill, leads_refused_spill}
use Rattle.tardis_core.specs.inner.Seating.{parts}
use Rattle.tardis_core.proofs.machine.Machine.spill.Goals as goal

pub returns-in_err-went : goal.returns-in_err-went
returns-in_err-went c =
    let was = parts c.self.inside.config c.self.inside.units.items c.self.inside.kept.items c.self.inside.slices.items in
    let below : c.slice_of.result < length was.slices = omega (arith, c.slice_of.ensures.in_range, c.self.invariant.machine.placed.count) in
    let at = stands was.slices c.slice_of.result c.slice_of.result c.index_mut-slice.result.now refl below c.index_mut-slice.ensures.value in
    let p = err_from_is_err_and c.from_residual.result c.from_residual.ensures.1 in
    record {
      outcome = rw (p.1, p.2, ← c.self.view_is) (spilled_err was c.self.invariant.machine.placed c.args.addr c.slice_of.result c.slice_of.ensures.value c.index_mut-slice.result.now at c.in_err-went.field-0.0 c.evict.new.self c.in_err-went.ensures.outcome);
      leads = rw (p.1, p.2, ← c.self.view_is) (leads_refused_spill was c.self.invariant.machine.placed c.args.addr c.slice_of.result c.slice_of.ensures.value c.index_mut-slice.result.now at c.in_err-went.field-0.0 c.evict.new.self c.in_err-went.ensures.outcome c.in_err-went.ensures.refused);
    }

pub invariant_of-self-2 : goal.invariant_of-self-2
invariant_of-self-2 c =
    let was = parts c.self.inside.config c.self.inside.units.items c.self.inside.kept.items c.self.inside.slices.items in
    let below : c.slice_of.result < length was.slices = omega (arith, c.slice_of.ensures.in_range, c.self.invariant.machine.placed.count) in
    let at = stands was.slices c.slice_of.result c.slice_of.result c.index_mut-slice.result.now refl below c.index_mut-slice.ensures.value in
    let led = leads_spill was c.self.invariant.machine.placed c.args.addr c.slice_of.result c.slice_of.ensures.value c.index_mut-slice.result.now at c.in_ok-went.went c.evict.new.self c.in_ok-went.ensures.shared c.in_ok-went.ensures.table c.in_ok-went.ensures.outcome in
    record {
      one_each = c.self.invariant.one_each;
      machine = record {
        placed = kept_spilled was c.self.invariant.machine.placed c.args.addr c.slice_of.result c.slice_of.ensures.value c.index_mut-slice.result.now at c.in_ok-went.went c.evict.new.self c.in_ok-went.ensures.outcome;
        reached = reached_on (event.Spill c.args.addr) was _ _ led refl c.self.invariant.machine.reached;
        room = c.self.invariant.machine.room;
      };
    }

pub returns : goal.returns
returns c =
    let was = parts c.self.inside.config c.self.inside.units.items c.self.inside.kept.items c.self.inside.slices.items in
    let below : c.slice_of.result < length was.slices = omega (arith, c.slice_of.ensures.in_range, c.self.invariant.machine.placed.count) in
    let at = stands was.slices c.slice_of.result c.slice_of.result c.index_mut-slice.result.now refl below c.index_mut-slice.ensures.value in
    record {
      outcome = rw (← c.self.view_is, c.spill_told.ensures) (spilled_ok was c.self.invariant.machine.placed c.args.addr c.slice_of.result c.slice_of.ensures.value c.index_mut-slice.result.now at c.in_ok-went.went c.evict.new.self c.in_ok-went.ensures.outcome);
      leads = rw (← c.self.view_is, c.spill_told.ensures) (leads_spill was c.self.invariant.machine.placed c.args.addr c.slice_of.result c.slice_of.ensures.value c.index_mut-slice.result.now at c.in_ok-went.went c.evict.new.self c.in_ok-went.ensures.shared c.in_ok-went.ensures.table c.in_ok-went.ensures.outcome);
    }
