use Rattle.std.proofs.Common.{rules}
use Rattle.std.specs.Prelude.{Ok}
use Rattle.log_file.specs.Sets.{SpellSet}
use Rattle.litmus.specs.Ends.{logs_of}
use Rattle.litmus.specs.inner.Ending.{word_lists}
use Rattle.litmus.specs.inner.JudgedOutcome.{IsVerdictOn, at_end}
use Rattle.litmus.proofs.JudgedOutcome.{told_of}
use Rattle.litmus.proofs.judging.judge_end.Goals as goal

pub returns-in-Ok : goal.returns-in-Ok
returns-in-Ok g c =
    let t = c.args.test.now in
    let w = at_end c.args.units.now in
    let spell : SpellSet (word_lists c.in_ok-texts.texts.items) (logs_of t w) = search rules in
    let answer : IsVerdictOn t.programs (logs_of t w) (Ok c.in-Ok.verdict) = search rules in
    told_of t w c.in-Ok.verdict c.check_yes.result answer c.check_yes.ensures
