use Rattle.std.proofs.Common.{◌<◌, get_or, ap, arith}
use Rattle.std.proofs.lemmas.List.FromFn.{fill_by_all}
use Rattle.statistics.specs.Columns.{column_at, column_count, joined_in}
use Rattle.statistics.specs.Numbers.{by_place}
use Rattle.statistics.proofs.numbers.Numbers.join.Goals as goal

pub joined-requires-clause-room : goal.joined-requires-clause-room
joined-requires-clause-room c = λ counts.
    let place = c.loop-place.place in
    omega (arith, c.loop-place.invariant.above place (omega arith), c.requires.room.each place c.loop-place-test.true counts, c.requires.few.each place c.loop-place-test.true counts)

pub returns-clause-totals : goal.returns-clause-totals
unfolding by_place
returns-clause-totals c =
    let all = fill_by_all (λ place. joined_in (column_at place) (get_or c.args.self.now.values place 0) (get_or c.args.more.now.values place 0)) c.loop-place.self.values column_count 0
    c.loop-place.invariant.long (λ k lt. let below : k < c.loop-place.place = omega arith in c.loop-place.invariant.below k below) in
    ap (λ values. record { values = values }) all
