use Rattle.std.proofs.Common.{arith, sym}
use Rattle.core_unit.specs.declared.entry.CoreEntry.TheVariants.{Performed}
use Rattle.audit.specs.Lists.{transcripts, transcript_of}
use Rattle.audit.proofs.Compared.{next_got, gots_end, none_served, another_served, same_served, served_left, all_served}
use Rattle.audit.proofs.pairs.pair_fault.Goals as goal

pub returns-in_default : goal.returns-in_default
returns-in_default c =
    let got = next_got c.args.count c.args.slice (transcript_of (transcripts c.args.units.now) c.args.core) c.loop-k.k c.entry_there-entry.result c.entry_there-entry.ensures (omega (arith, c.loop-k-test.true, c.entry_count-k-end.ensures)) (sym c.if-not-is_of_slice.ensures) in
    none_served c.args.count c.args.slice c.args.core (transcript_of (transcripts c.args.units.now) c.args.core) c.args.history.now c.loop-k.k c.loop-k.place c.loop-k.seen c.entry_there-entry.result c.loop-k.invariant.same
    got c.in_default.ensures

pub returns-then-not-is_served : goal.returns-then-not-is_served
returns-then-not-is_served c =
    let got = next_got c.args.count c.args.slice (transcript_of (transcripts c.args.units.now) c.args.core) c.loop-k.k c.entry_there-entry.result c.entry_there-entry.ensures (omega (arith, c.loop-k-test.true, c.entry_count-k-end.ensures)) (sym c.if-not-is_of_slice.ensures) in
    another_served c.args.count c.args.slice c.args.core (transcript_of (transcripts c.args.units.now) c.args.core) c.args.history.now c.loop-k.k c.loop-k.place c.loop-k.seen c.entry_there-entry.result c.loop-k.invariant.same
    got c.in-Some.at c.in-Some.ensures c.if-not-is_served.ensures

pub loop-k-preserved : goal.loop-k-preserved
loop-k-preserved c =
    let got = next_got c.args.count c.args.slice (transcript_of (transcripts c.args.units.now) c.args.core) c.loop-k.k c.entry_there-entry.result c.entry_there-entry.ensures (omega (arith, c.loop-k-test.true, c.entry_count-k-end.ensures)) (sym c.if-not-is_of_slice.ensures) in
    record {
      within = omega (arith, c.in-Some.ensures.within);
      place = omega (arith, c.in-Some.ensures.least);
      same = same_served c.args.count c.args.slice c.args.core (transcript_of (transcripts c.args.units.now) c.args.core) c.args.history.now c.loop-k.k c.loop-k.place c.loop-k.seen c.entry_there-entry.result c.loop-k.invariant.same
          got c.in-Some.at c.in-Some.ensures c.if-not-is_served.ensures;
    }

pub returns-in-Some-next_served : goal.returns-in-Some-next_served
returns-in-Some-next_served c =
    served_left c.args.count c.args.slice c.args.core (transcript_of (transcripts c.args.units.now) c.args.core) c.args.history.now c.loop-k.k c.loop-k.place c.loop-k.seen Performed c.loop-k.invariant.same
    (gots_end c.args.count c.args.slice (transcript_of (transcripts c.args.units.now) c.args.core) c.loop-k.k (omega (arith, c.entry_count-k-end.ensures))) _ c.in-Some-next_served.ensures

pub returns-in-None : goal.returns-in-None
returns-in-None c =
    all_served c.args.count c.args.slice c.args.core (transcript_of (transcripts c.args.units.now) c.args.core) c.args.history.now c.loop-k.k c.loop-k.place c.loop-k.seen Performed c.loop-k.invariant.same
    (gots_end c.args.count c.args.slice (transcript_of (transcripts c.args.units.now) c.args.core) c.loop-k.k (omega (arith, c.entry_count-k-end.ensures))) c.in-None.ensures
