use Rattle.std.proofs.Common.{arith, ◌∙◌, ap, ◌+◌}
use Rattle.std.specs.BTreeMap.{insert_entry}
use Rattle.litmus.proofs.Tallied.{by_items, count_most, one_more}
use Rattle.litmus.proofs.tally.count_outcome.Goals as goal

pub overflow_add-count : goal.overflow_add-count
overflow_add-count c =
    let most = count_most c.args.outcome.items c.requires.0 c.args.tally.now.entries c.requires.2 in
    omega (arith, most, c.requires.1, c.count_in-count.ensures)

pub returns : goal.returns
returns c = λ outcomes tally.
    one_more outcomes c.args.tally.now.entries c.insert.new.self.entries c.args.outcome c.in_ok-insert.ensures.was_ordered
    (c.in_ok-insert.ensures.entries ∙ ap (λ n. insert_entry by_items c.args.tally.now.entries c.args.outcome (n + 1)) c.count_in-count.ensures) tally
