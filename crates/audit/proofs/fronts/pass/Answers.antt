use Rattle.std.proofs.Common.{◌≡◌, ◌<◌, length, slice_index, ap, sym, ◌∙◌, arith}
use Rattle.std.specs.Prelude.{Some, slice_get, slice_set}
use Rattle.std.proofs.lemmas.List.{length-map, length-set}
use Rattle.manager_slice.specs.declared.managed.HistoryEntry.TheVariants.{Served}
use Rattle.core_unit.specs.declared.entry.CoreEntry.TheVariants.{Got}
use Rattle.audit.specs.Lists.{transcripts, histories, transcript_of}
use Rattle.audit.specs.inner.Fronts.{waits_for}
use Rattle.audit.proofs.Moving.{passed, mark, one_on, on_again, sum_on, sum_up}
use Rattle.audit.proofs.Orders.{message_passes}
use Rattle.audit.proofs.Progress.{fit_core, fit_slice}
use Rattle.audit.proofs.fronts.pass.Goals as goal

pub core_on-requires-clause-fronts : goal.core_on-requires-clause-fronts
core_on-requires-clause-fronts c =
    let en = c.requires.enabled in
    let was = c.requires.merging.fronts in
    let within : c.args.slice < length c.args.places.now.slices = omega (arith, c.requires.due.0, was.slices) in
    rw (c.bump.ensures, c.bump-2.ensures) (record {
      reached = message_passes _ _ c.args.places.now.cores c.args.places.now.slices c.args.core c.args.slice en.1.0 en.1.1 was.reached en.0 within en.1.2 en.1.3 en.1.4;
      fit = fit_slice _ _ _ c.args.places.now.slices c.args.slice (Served c.args.core en.1.0 en.1.1)
          (fit_core _ _ c.args.places.now.cores c.args.places.now.slices c.args.core (Got en.1.0 en.1.1) was.fit en.0 en.1.2) within en.1.3;
      cores = length-set c.args.places.now.cores c.args.core _ ∙ was.cores;
      slices = length-set c.args.places.now.slices c.args.slice _ ∙ was.slices;
    })

pub returns-clause-merging : goal.returns-clause-merging
returns-clause-merging c =
    let ts = transcripts c.args.units.now in
    let hs = histories c.args.slices.now in
    let p = c.args.places.now.cores in
    let q = c.args.places.now.slices in
    let count : length c.args.slices.now ≡ length hs = sym (length-map c.args.slices.now (λ s. s.history)) in
    let below : c.in-Some.waited < length c.args.due.now = omega (arith, c.in-Some.ensures.in_range, c.requires.most, c.requires.merging.due) in
    let waits : waits_for (length hs) (slice_get (transcript_of ts c.args.core) (slice_index c.core_on.new.places.cores c.args.core)) ≡ Some c.in-Some.waited =
    ap (λ n. waits_for n (slice_get (transcript_of ts c.args.core) (slice_index c.core_on.new.places.cores c.args.core))) (sym count)
    ∙ sym c.in-Some.ensures.value in
    let on = on_again c.args.core p _ _ (one_on p c.args.core c.requires.enabled.0) (rw c.bump.ensures at c.core_on.ensures.on) in
    let fronts = rw (c.core_on.ensures.still, c.bump-2.ensures) at c.core_on.ensures.fronts in
    rw (c.core_on.ensures.still, c.bump-2.ensures, c.set_due.ensures)
    (passed ts hs p q c.args.due.now c.core_on.new.places.cores (slice_set c.args.due.now c.in-Some.waited 1) c.args.core c.args.slice c.requires.merging c.requires.due on fronts
    c.core_on.ensures.alone (length-set c.args.due.now c.in-Some.waited 1) (mark c.args.due.now c.in-Some.waited _ below waits))

pub returns-clause-less : goal.returns-clause-less
returns-clause-less c =
    let p = c.args.places.now.cores in
    let q = c.args.places.now.slices in
    let within : c.args.slice < length q = omega (arith, c.requires.due.0, c.requires.merging.fronts.slices) in
    let below : c.in-Some.waited < length c.args.due.now = omega (arith, c.in-Some.ensures.in_range, c.requires.most, c.requires.merging.due) in
    let core = rw c.bump.ensures at c.core_on.ensures.on.more in
    rw (c.core_on.ensures.still, c.bump-2.ensures, c.set_due.ensures)
    (omega (arith, core, sum_on p c.args.core c.requires.enabled.0, sum_on q c.args.slice within, sum_up c.args.due.now c.in-Some.waited below))
