use Rattle.std.proofs.Common.{◌∙◌, ap, map}
use Rattle.std.proofs.lemmas.Iterator.Consumers.{YieldsList-end, YieldsList-from_rest}
use Rattle.litmus.specs.inner.Tallies.{counted}
use Rattle.litmus.proofs.Tallied.{all_rows, gone_through, row_of}
use Rattle.litmus.proofs.tally.rows_of.Goals as goal

pub returns : goal.returns
returns c = λ outcomes tally.
    let gives = c.into_iter-values-iterator.ensures.into_iter_gives in
    let end = YieldsList-end (YieldsList-from_rest c.args.tally.entries gives.0) c.loop-values.yielded _ c.loop-values.yielded_by _ c.next.new.self c.in-None.is c.next.ensures.steps in
    let rows = c.loop-values.invariant ∙ ap (λ es. map (row_of c.args.test.now) (counted es)) (gone_through c.loop-values.yielded c.args.tally.entries end.0) in
    all_rows c.args.test.now outcomes c.args.tally.entries c.loop-values.rows.items gives.5 rows tally
