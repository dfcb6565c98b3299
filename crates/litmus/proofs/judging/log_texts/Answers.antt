use Rattle.std.proofs.Common.{rules, ◌≡◌, arith}
use Rattle.log_record.specs.declared.format.Format.TheVariants.{Two}
use Rattle.litmus.specs.inner.JudgedOutcome.{at_end}
use Rattle.litmus.proofs.JudgedOutcome.{all_texts, one_more_text}
use Rattle.litmus.proofs.judging.log_texts.Goals as goal

pub loop-number-preserved : goal.loop-number-preserved
loop-number-preserved c =
    let core-is : c.at-core.result ≡ c.loop-number.number = search rules in
    one_more_text (at_end c.args.units.now) c.args.cores c.loop-number.number c.at-core.result c.loop-number.texts.items c.push.new.self.items
    c.in_ok-text.text c.log_of.result.now c.loop-number.invariant c.in_ok-push.ensures.items core-is c.log_of.ensures.records (Two, c.in_ok-text.ensures.text)

pub returns-clause-texts : goal.returns-clause-texts
returns-clause-texts c =
    let last : c.loop-number.number ≡ c.args.cores = omega (arith, c.loop-number-test.false, c.loop-number.auto.number-end) in
    all_texts (at_end c.args.units.now) c.args.cores c.loop-number.number c.loop-number.texts.items c.loop-number.invariant last
