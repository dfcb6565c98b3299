use Rattle.std.proofs.Common.{[], length, sym, ap, ◌∙◌, arith}
use Rattle.audit.specs.Lists.{put, transcripts, transcript_of}
use Rattle.audit.specs.Pairs.{got_at}
use Rattle.audit.proofs.Compared.{some_of, none_of}
use Rattle.audit.proofs.Maximal.{picks_step}
use Rattle.audit.proofs.merging.gots_before.Goals as goal

pub loop-k-preserved-then-not-is_of_slice : goal.loop-k-preserved-then-not-is_of_slice
loop-k-preserved-then-not-is_of_slice c =
    let f = got_at c.args.count c.args.slice in
    let e = c.entry_there-entry.result in
    let step = picks_step f (transcript_of (transcripts c.args.units.now) c.args.core) c.loop-k.k e (omega (arith, c.loop-k-test.true, c.requires.within)) in
    let none = ap (λ o. length (put o [])) (ap f (sym c.entry_there-entry.ensures) ∙ none_of (f e) (sym c.if-not-is_of_slice.ensures)) in
    record { is = omega (arith, c.loop-k.invariant.is, step, none); small = omega (arith, c.loop-k.invariant.small) }

pub loop-k-preserved : goal.loop-k-preserved
loop-k-preserved c =
    let f = got_at c.args.count c.args.slice in
    let e = c.entry_there-entry.result in
    let step = picks_step f (transcript_of (transcripts c.args.units.now) c.args.core) c.loop-k.k e (omega (arith, c.loop-k-test.true, c.requires.within)) in
    let x = some_of (f e) (sym c.if-not-is_of_slice.ensures) in
    let some = ap (λ o. length (put o [])) (ap f (sym c.entry_there-entry.ensures) ∙ x.1) in
    record { is = omega (arith, c.loop-k.invariant.is, step, some); small = omega (arith, c.loop-k.invariant.small) }
