use Rattle.std.proofs.Common.{◌≡◌, ◌<◌, length, slice_index, sym, ◌∙◌, arith, true}
use Rattle.std.proofs.lemmas.List.{length-set}
use Rattle.audit.specs.Lists.{transcripts, histories, transcript_of}
use Rattle.audit.specs.inner.Fronts.{goes_alone}
use Rattle.audit.proofs.Moving.{own_there, one_on, on_again, sum_on}
use Rattle.audit.proofs.Orders.{core_alone}
use Rattle.audit.proofs.Progress.{fit_core, sum_fits}
use Rattle.audit.proofs.fronts.core_on.Goals as goal

pub loop-places-preserved : goal.loop-places-preserved
loop-places-preserved c =
    let ts = transcripts c.args.units.now in
    let hs = histories c.args.slices.now in
    let p = c.loop-places.places.cores in
    let was = c.loop-places.invariant.fronts in
    let within : c.args.core < length p = omega (arith, c.requires.core, c.requires.fronts.cores, c.loop-places.invariant.on.count) in
    let goes : goes_alone (transcript_of ts c.args.core) (slice_index p c.args.core) ≡ true =
    sym c.is_alone.ensures ∙ c.loop-places-test.true in
    let e = own_there (transcript_of ts c.args.core) (slice_index p c.args.core) goes in
    rw c.bump.ensures (record {
      fronts = record {
        reached = core_alone ts hs p c.loop-places.places.slices c.args.core e.0 was.reached within e.1 e.2;
        fit = fit_core ts hs p c.loop-places.places.slices c.args.core e.0 was.fit within e.1;
        cores = length-set p c.args.core _ ∙ was.cores;
        slices = was.slices;
      };
      still = c.loop-places.invariant.still;
      on = on_again c.args.core c.args.places.now.cores p _ c.loop-places.invariant.on (one_on p c.args.core within);
    })

pub loop-places-smaller : goal.loop-places-smaller
loop-places-smaller c =
    let ts = transcripts c.args.units.now in
    let hs = histories c.args.slices.now in
    let p = c.loop-places.places.cores in
    let within : c.args.core < length p = omega (arith, c.requires.core, c.requires.fronts.cores, c.loop-places.invariant.on.count) in
    let goes : goes_alone (transcript_of ts c.args.core) (slice_index p c.args.core) ≡ true =
    sym c.is_alone.ensures ∙ c.loop-places-test.true in
    let e = own_there (transcript_of ts c.args.core) (slice_index p c.args.core) goes in
    let fit = fit_core ts hs p c.loop-places.places.slices c.args.core e.0 c.loop-places.invariant.fronts.fit within e.1 in
    let most = sum_fits ts _ fit.cores in
    rw c.bump.ensures (omega (arith, most, sum_on p c.args.core within))
