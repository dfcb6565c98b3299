use Rattle.std.proofs.Common.{rules, ◌≡◌, subst, ap, ℕ, List, Some, arith, length}
use Rattle.std.specs.Global.{Vec}
use Rattle.std.specs.Prelude.{IsErrOf}
use Rattle.std.specs.List.{AllZip}
use Rattle.std.proofs.lemmas.List.{length-map}
use Rattle.log_file.specs.Devices.{Tells}
use Rattle.log_file.specs.InMemory.{rest_of}
use Rattle.verdict.specs.Judgement.{IsRunAnswerTo}
use Rattle.verdict.specs.declared.judge_fault.Count.{Count}
use Rattle.verdict.specs.declared.judge_fault.Count.TheVariants.{Files, Workers, Programs}
use Rattle.verdict.specs.declared.judge_fault.JudgeFault.TheVariants.{BadConfig}
use Rattle.litmus.specs.inner.Ending.{word_lists}
use Rattle.litmus.proofs.JudgedOutcome.{told, verdict_on}
use Rattle.litmus.proofs.judging.judge_texts.Goals as goal

pub returns : goal.returns
returns g c logs spell =
    let exact = c.judge_run.ensures.exact in
    let zip : AllZip (λ source text. Tells (Some source.bytes.now) text) c.in_ok-sources.sources.items exact.0 = search rules in
    let same = told c.in_ok-sources.sources.items exact.0 (word_lists c.args.texts.now) zip c.in_ok-sources.ensures.texts in
    let answer = subst (λ (ts : List (List ℕ)). IsRunAnswerTo c.args.programs.now.programs ts c.judge_run.result) same exact.3 in
    verdict_on c.args.programs.now.programs (word_lists c.args.texts.now) logs _ _ c.judge_run.result spell answer c.judge_run.ensures.read fine
  where
    many : length c.as_mut_slice.result.now ≡ length c.args.texts.now
    many = omega (
      arith,
      ap length c.as_mut_slice.ensures.value,
      ap length c.in_ok-sources.ensures.texts,
      length-map c.in_ok-sources.sources.items rest_of,
      length-map c.args.texts.now (λ (v : Vec ℕ). v.items),
    )

    fine : (count : Count) → ¬ (IsErrOf c.judge_run.result (BadConfig count))
    fine Files bad = let out = c.judge_run.ensures.files.0 bad in omega (arith, out, many, c.requires.in_range)
    fine Workers bad = let out = c.judge_run.ensures.workers.0 bad in omega (arith, out.1)
    fine Programs bad = let out = c.judge_run.ensures.programs.0 bad in absurd (out.2 (omega (arith, many, c.requires.programs)))
