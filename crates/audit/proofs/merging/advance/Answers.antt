use Rattle.std.proofs.Common.{arith}
use Rattle.audit.specs.Lists.{transcripts, histories}
use Rattle.audit.proofs.Moving.{none_due}
use Rattle.audit.proofs.Progress.{sum_fits}
use Rattle.audit.proofs.merging.advance.Goals as goal

pub loop-slice-smaller : goal.loop-slice-smaller
loop-slice-smaller c =
    let a = sum_fits (transcripts c.args.units.now) c.move_slice.new.places.cores c.move_slice.ensures.merging.fronts.fit.cores in
    let b = sum_fits (histories c.args.slices.now) c.move_slice.new.places.slices c.move_slice.ensures.merging.fronts.fit.slices in
    omega (arith, a, b, c.move_slice.ensures.less)

pub returns-clause-stuck : goal.returns-clause-stuck
returns-clause-stuck c = none_due _ _ c.loop-slice.places.cores c.loop-slice.places.slices c.loop-slice.due c.loop-slice.invariant c.in_default.ensures
