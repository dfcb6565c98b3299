use Rattle.std.proofs.Common.{◌<◌, arith}
use Rattle.statistics.proofs.Counting.{one_more}
use Rattle.statistics.proofs.numbers.count.Goals as goal

pub returns-clause-counts : goal.returns-clause-counts
returns-clause-counts c = λ seen was.
    one_more seen c.args.sight.now c.args.counts.now c.loop-place.counts c.loop-place.invariant.long
    (λ k lt. let below : k < c.loop-place.place = omega arith in c.loop-place.invariant.below k below) was
