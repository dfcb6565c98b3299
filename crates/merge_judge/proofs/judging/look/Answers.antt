-- The words hold where no fault was found; and an id isn't written where there is one.
use Rattle.std.proofs.Common.{rules, ◌≡◌}
use Rattle.std.specs.Prelude.{◌&&◌, false, is_none}
use Rattle.merge_judge.proofs.WritingFacts.{nothing_more}
use Rattle.merge_judge.proofs.judging.look.Goals as goal

pub returns-then-clean-clause-holds : goal.returns-then-clean-clause-holds
returns-then-clean-clause-holds g c = λ done h none. c.perform.ensures.holds done (h (search rules))

pub returns-clause-holds : goal.returns-clause-holds
returns-clause-holds g c = λ done h none. c.perform.ensures.holds done (h (search rules))

pub returns-then-is_some-clause-written : goal.returns-then-is_some-clause-written
returns-then-is_some-clause-written g c =
    let off : (is_none c.args.fault.now && c.args.clean) ≡ false = search rules in
    nothing_more (g.W.ByteSink.contents c.args.order_out.now) (g.O.Order.kept c.args.order.now) (is_none c.args.fault.now && c.args.clean) c.args.entry.now.id off

pub returns-clause-written : goal.returns-clause-written
returns-clause-written g c =
    let off : (is_none c.perform.result && c.args.clean) ≡ false = search rules in
    nothing_more (g.W.ByteSink.contents c.args.order_out.now) (g.O.Order.kept c.args.order.now) (is_none c.perform.result && c.args.clean) c.args.entry.now.id off
