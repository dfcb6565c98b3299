-- The texts of logs, and what the judge says of them.
use Rattle.std.proofs.Common.{◌≡◌, ℕ, suc, ◌+◌, List, [], ◌∷◌, ◌++◌, length, map, Some, refl, sym, ap, subst, ◌∙◌, arith, length-append}
use Rattle.std.specs.Global.{Vec}
use Rattle.std.specs.List.{AllZip}
use Rattle.std.specs.Prelude.{Result, Ok, Err, IsErrOf, MatchResult}
use Rattle.std.proofs.lemmas.List.{map_push}
use Rattle.log_record.specs.declared.record.Record.{Record}
use Rattle.log_file.specs.Devices.{Tells}
use Rattle.log_file.specs.InMemory.{rest_of}
use Rattle.log_file.specs.declared.slice_source.SliceSource.{SliceSource}
use Rattle.log_file.specs.Log.{Spells}
use Rattle.log_file.specs.Sets.{SpellFrom, SpellSet}
use Rattle.core_program.specs.declared.instruction.Instruction.{Instruction}
use Rattle.core_machine.specs.Machine.{World}
use Rattle.core_machine.specs.Works.{log_at, logs_below}
use Rattle.verdict.specs.Judgement.{IsOfTexts, IsRunAnswerTo, IsYes, TellsFailures}
use Rattle.verdict.specs.VerdictOf.{run_verdict_of}
use Rattle.verdict.specs.declared.answer.Verdict.{Verdict}
use Rattle.verdict.specs.declared.answer.Verdict.TheVariants.{Yes, No}
use Rattle.verdict.specs.declared.judge_fault.Count.{Count}
use Rattle.verdict.specs.declared.judge_fault.JudgeFault.{JudgeFault}
use Rattle.verdict.specs.declared.judge_fault.JudgeFault.TheVariants as fault
use Rattle.verdict.proofs.OneAnswer.{one_answer}
use Rattle.litmus.specs.Parts.{LitmusParts}
use Rattle.litmus.specs.Ends.{GetsYes, IsJudgeCause, logs_of}
use Rattle.litmus.specs.declared.run_cause.RunCause.{RunCause}
use Rattle.litmus.specs.inner.Ending.{word_lists}
use Rattle.litmus.specs.inner.JudgedOutcome.{IsNo, IsVerdictOn}

-- ---- texts of logs

pub spell_push : (core cores m : ℕ) (texts : List (List ℕ)) (logs : List (List Record)) (text : List ℕ) (log : List Record) → SpellFrom core cores texts logs
    → length texts ≡ m → Spells (core + m) cores text log → SpellFrom core cores (texts ++ text ∷ []) (logs ++ log ∷ [])
spell_push core cores m [] [] text log all count spells = (subst (λ (c : ℕ). Spells c cores text log) (omega (arith, count)) spells, tt)
spell_push core cores m [] (l ∷ logs) text log all count spells = absurd all
spell_push core cores m (t ∷ texts) [] text log all count spells = absurd all
spell_push core cores m (t ∷ texts) (l ∷ logs) text log all count spells =
    (all.0, spell_push (core + 1) cores (length texts) texts logs text log all.1 refl (subst (λ (c : ℕ). Spells c cores text log) (omega (arith, count)) spells))

-- the texts of the logs of the cores so far
pub record TextsSoFar (w : World) (cores : ℕ) (texts : List (Vec ℕ)) (number : ℕ) : Type 0 where
  pub spell : SpellFrom 0 cores (word_lists texts) (logs_below w number)
  pub count : length (word_lists texts) ≡ number

pub one_more_text : (w : World) (cores number core : ℕ) (old new : List (Vec ℕ)) (text : Vec ℕ) (log : List Record) → TextsSoFar w cores old number → new ≡ old ++ text ∷ []
    → core ≡ number → log ≡ log_at w core → Spells core cores text.items log → TextsSoFar w cores new (number + 1)
one_more_text w cores number core old new text log far is core-is log-is spells =
    let lists : word_lists new ≡ word_lists old ++ text.items ∷ [] = ap word_lists is ∙ map_push (λ (v : Vec ℕ). v.items) old text in
    let next : logs_below w (suc number) ≡ logs_below w number ++ log ∷ [] = ap (λ (l : List Record). logs_below w number ++ l ∷ []) (ap (log_at w) (sym core-is) ∙ sym log-is) in
    let more : suc number ≡ number + 1 = omega arith in
    let at : number ≡ 0 + number = omega arith in
    let spelled : SpellFrom 0 cores (word_lists old ++ text.items ∷ []) (logs_below w number ++ log ∷ []) =
    spell_push 0 cores number (word_lists old) (logs_below w number) text.items log far.spell far.count (subst (λ (c : ℕ). Spells c cores text.items log) (core-is ∙ at) spells) in
    record {
      spell = subst (λ (ts : List (List ℕ)). SpellFrom 0 cores ts (logs_below w (number + 1))) (sym lists)
          (subst (λ (ls : List (List Record)). SpellFrom 0 cores (word_lists old ++ text.items ∷ []) ls) (sym next ∙ ap (logs_below w) more) spelled);
      count = omega (arith, ap length lists, length-append (word_lists old) (text.items ∷ []), far.count);
    }

pub all_texts : (w : World) (cores number : ℕ) (texts : List (Vec ℕ)) → TextsSoFar w cores texts number → number ≡ cores → SpellSet (word_lists texts) (logs_below w cores)
all_texts w cores number texts far same =
    subst (λ (n : ℕ). SpellFrom 0 n (word_lists texts) (logs_below w cores)) (sym (far.count ∙ same))
    (subst (λ (n : ℕ). SpellFrom 0 cores (word_lists texts) (logs_below w n)) same far.spell)

-- ---- texts that sources tell

pub told : (sources : List SliceSource) (texts ts : List (List ℕ)) → AllZip (λ source text. Tells (Some source.bytes.now) text) sources texts
    → map rest_of sources ≡ ts → texts ≡ ts
told [] [] ts zip is = is
told [] (t ∷ texts) ts zip is = absurd zip
told (s ∷ sources) [] ts zip is = absurd zip
told (s ∷ sources) (t ∷ texts) [] zip is = absurd cc
told (s ∷ sources) (t ∷ texts) (u ∷ ts) zip is =
    let first : s.bytes.now ≡ t = zip.0 in
    let head : s.bytes.now ≡ u = cc in
    let rest : texts ≡ ts = told sources texts ts zip.1 cc in
    cc

-- ---- the judge's answer to texts that spell logs

-- where it is the texts' alone, it is the verdict on these
alone : (programs : List (List Instruction)) (texts : List (List ℕ)) (logs : List (List Record)) (r : Result Verdict JudgeFault) → SpellSet texts logs → IsOfTexts r
    → IsRunAnswerTo programs texts r → r ≡ Ok (run_verdict_of programs logs)
alone programs texts logs r spell of-texts answer =
    one_answer (run_verdict_of programs) texts r (Ok (run_verdict_of programs logs)) of-texts tt answer (logs, spell, refl)

-- where no count is bad and no reader ever fails, it is that or lack of memory
pub verdict_on : {S : Type 0} (programs : List (List Instruction)) (texts : List (List ℕ)) (logs : List (List Record)) (old new : List S) (r : Result Verdict JudgeFault)
    → SpellSet texts logs → IsRunAnswerTo programs texts r → TellsFailures (λ _. 0) old new r → ((count : Count) → ¬ (IsErrOf r (fault.BadConfig count)))
    → IsVerdictOn programs logs r
verdict_on programs texts logs old new (Ok verdict) spell answer failures fine = let is = alone programs texts logs (Ok verdict) spell tt answer in cc
verdict_on programs texts logs old new (Err (fault.Log file line why)) spell answer failures fine =
    let is = alone programs texts logs (Err (fault.Log file line why)) spell tt answer in cc
verdict_on programs texts logs old new (Err (fault.Read file)) spell answer (before, (after, old-is, new-is, failed)) fine = absurd (omega (arith, failed))
verdict_on programs texts logs old new (Err (fault.BadConfig count)) spell answer failures fine = absurd (fine count refl)
verdict_on programs texts logs old new (Err fault.OutOfMemory) spell answer failures fine = refl

-- ---- what is told of a run

-- what is told of the verdict is so of the logs
pub told_of : {A : Type 0} (t : LitmusParts) (w : World) (v : Verdict) (r : Result A RunCause) → IsVerdictOn t.programs (logs_of t w) (Ok v)
    → MatchResult r (λ _. IsYes v) (λ why. IsNo v why) → MatchResult r (λ _. GetsYes t w) (λ why. IsJudgeCause t w why)
told_of t w (Yes count) (Ok x) answer is = (count, answer)
told_of t w (No fault) (Ok x) answer is = absurd is
told_of t w (Yes count) (Err why) answer is = absurd is
told_of t w (No fault) (Err why) answer is = subst (IsJudgeCause t w) (sym is) answer
