-- The answer to the texts that the records would have.
use Rattle.std.proofs.Common.{rules, Ok, Err, subst}
use Rattle.std.specs.Prelude.{IfSome}
use Rattle.merge_judge.specs.Answer.{judged}
use Rattle.merge_judge.specs.Records.{records_of}
use Rattle.merge_judge.specs.declared.merge_fault.MergeFault.{MergeFault}
use Rattle.merge_judge.proofs.Slices.{IsVerdictOn, all_fit, verdict_so}
use Rattle.merge_judge.proofs.record_judging.records_verdict.Goals as goal

pub merged-requires-clause-fit : goal.merged-requires-clause-fit
merged-requires-clause-fit g c = all_fit c.args.sources.now c.requires.sources c.requires.logs

pub returns-in-Ok-clause-exact : goal.returns-in-Ok-clause-exact
returns-in-Ok-clause-exact g c =
    verdict_so c.args.sources.now _ _ _ (Ok c.in-Ok.verdict) c.requires.sources c.requires.logs (search rules) c.in-Ok.ensures.exact tt

pub returns-in-Err-Judge-clause-exact : goal.returns-in-Err-Judge-clause-exact
returns-in-Err-Judge-clause-exact g c =
    subst (λ (e : MergeFault). IfSome (judged (Err e)) (IsVerdictOn (records_of c.args.sources.now))) c.in-Err-Judge.field-0-is
    (verdict_so c.args.sources.now _ _ _ _ c.requires.sources c.requires.logs (search rules) c.in-Err-Judge.ensures.exact c.in-Err-Judge.ensures.counted)
