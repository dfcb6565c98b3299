-- A log falls at an index where the item there falls from the one before.
use Rattle.std.specs.Prelude.{◌-◌}
use Rattle.std.proofs.Common.{◌∙◌, Some, sym, ap, arith}
use Rattle.core_check.proofs.LoggedFacts.{record_read, fall_at, none_after, one_more}
use Rattle.core_check.proofs.core_order.core_fault.Goals as goal

pub returns-then-falls-clause-least : goal.returns-then-falls-clause-least
returns-then-falls-clause-least g c =
    let earlier = record_read g.L.Logged.record_of g.L.Logged.records_of g.met.L.Logged.each c.args.log.now (c.loop-i.i - 1) c.index-log-i.result (omega arith) c.index-log-i.is ∙ ap (λ x. Some x) (sym c.logged.ensures) in
    let later = record_read g.L.Logged.record_of g.L.Logged.records_of g.met.L.Logged.each c.args.log.now c.loop-i.i c.index-log-i-in-loop-i.result (omega arith) c.index-log-i-in-loop-i.is ∙ ap (λ x. Some x) (sym c.logged-in-loop-i.ensures) in
    (fall_at (g.L.Logged.records_of c.args.log.now) c.loop-i.i _ _ (omega arith) earlier later ∙ sym c.falls.ensures ∙ c.if-falls.true, c.loop-i.invariant)

pub loop-i-preserved : goal.loop-i-preserved
loop-i-preserved g c =
    let earlier = record_read g.L.Logged.record_of g.L.Logged.records_of g.met.L.Logged.each c.args.log.now (c.loop-i.i - 1) c.index-log-i.result (omega arith) c.index-log-i.is ∙ ap (λ x. Some x) (sym c.logged.ensures) in
    let later = record_read g.L.Logged.record_of g.L.Logged.records_of g.met.L.Logged.each c.args.log.now c.loop-i.i c.index-log-i-in-loop-i.result (omega arith) c.index-log-i-in-loop-i.is ∙ ap (λ x. Some x) (sym c.logged-in-loop-i.ensures) in
    let here = fall_at (g.L.Logged.records_of c.args.log.now) c.loop-i.i _ _ (omega arith) earlier later ∙ sym c.falls.ensures ∙ c.if-falls.false in
    one_more (g.L.Logged.records_of c.args.log.now) c.loop-i.i here c.loop-i.invariant

pub returns-clause-least : goal.returns-clause-least
returns-clause-least g c = none_after (g.L.Logged.records_of c.args.log.now) c.loop-i.i (omega (arith, g.met.L.Logged.as_many c.args.log.now, c.loop-i-test.false)) c.loop-i.invariant
