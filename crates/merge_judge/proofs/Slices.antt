-- Logs whose records are there, as texts that sources tell.
use Rattle.std.specs.Prelude.{◌≡◌, ◌≤◌, ◌⊎◌, All, drop, ℕ, zero, suc, ◌+◌, false, List, [], ◌∷◌, ◌++◌, refl, Option, None, Some, Result, Ok, Err, IfErr, IfSome, MatchResult, get_or, length, map, slice_get}
use Rattle.std.specs.List.{AllZip}
use Rattle.std.proofs.Common.{add-one, sym, ◌∙◌, ap, subst, arith, inl, inr, append_assoc, append-nil, length-append}
use Rattle.std.specs.Io.KnownBytes.{Consumes}
use Rattle.std.proofs.lemmas.Grind.{common_steps}
use Rattle.std.proofs.lemmas.List.{drop_all, length-map}
use Rattle.std.proofs.lemmas.List.Elements.{All-get_or, All-head, All-map, All-tail}
use Rattle.std.proofs.lemmas.Slice.Zip.{AllZip-long}
use Rattle.std.proofs.Math.Seq.{drop-cons}
use Rattle.std.proofs.lemmas.Option.{get_or_from_slice_get, gets, slice_get-get_or, slice_get_within}
use Rattle.mem_op.specs.Limits.{operation_limit}
use Rattle.log_record.specs.declared.format.Format.TheVariants.{Two}
use Rattle.log_record.specs.declared.record.Record.{Record}
use Rattle.log_record.specs.Line.{FitsIn, end_text, record_text}
use Rattle.log_file.specs.Devices.{Failed, Tells}
use Rattle.log_file.specs.Log.{Spells, begun, spelling, text_of, with_lf}
use Rattle.log_file.specs.Sets.{ReaderFailed, SpellFrom, SpellSet}
use Rattle.log_file.proofs.Devices.{consumes_end}
use Rattle.log_file.proofs.Fed.{same_log}
use Rattle.log_file.proofs.Lines.{begun_push, fits_push, spelling_is}
use Rattle.verdict.specs.Judgement.{IsAnswerTo}
use Rattle.verdict.specs.VerdictOf.{verdict_of}
use Rattle.verdict.specs.declared.answer.Verdict.{Verdict}
use Rattle.verdict.specs.declared.judge_fault.Count.TheVariants.{Files}
use Rattle.verdict.specs.declared.judge_fault.JudgeFault.{JudgeFault}
use Rattle.verdict.specs.declared.judge_fault.JudgeFault.TheVariants.{BadConfig, Log, OutOfMemory, Read}
use Rattle.verdict.proofs.OneAnswer.{one_answer}
use Rattle.merge_judge.specs.Records.{AreOfLog, GivenLog, logs_from, records_of}
use Rattle.merge_judge.specs.inner.Following.{EndsWhole, FollowsOn, IsNextOn}
use Rattle.merge_judge.specs.inner.Given.{kept_at, lines_from, text_left}
use Rattle.merge_judge.specs.Answer.{judged}
use Rattle.merge_judge.specs.declared.merge_fault.MergeFault.{MergeFault}
use Rattle.merge_judge.specs.declared.merge_fault.MergeFault.TheVariants.{Judge, Write}
use Rattle.merge_judge.specs.inner.Judging.{IsMergedBy, IsNoCount}

-- ---- one record of a log

-- the line of the record at an index, and those after it
lines_more : (records : List Record) (at : ℕ) (r : Record) → slice_get records at ≡ Some r → lines_from records at ≡ with_lf (record_text r) ++ lines_from records (at + 1)
lines_more records at r there =
    ap (λ rs. text_of (map record_text rs) ++ text_of (end_text (length records) ∷ [])) dropped
    ∙ append_assoc (with_lf (record_text r)) (text_of (map record_text (drop (at + 1) records))) (text_of (end_text (length records) ∷ []))
  where
    dropped : drop at records ≡ r ∷ drop (at + 1) records
    dropped = rw add-one (drop-cons records at r (slice_get_within records at r there) ∙ ap (λ x. x ∷ drop (suc at) records) (get_or_from_slice_get records at r r there))

module _ (core cores own_core own_cores : ℕ) (first still : Option (List ℕ)) (records : List Record) (at : ℕ) (answered : List Record) (h : FollowsOn core cores first still (kept_at own_core own_cores records at) answered) where
  pub given_more : (r : Record) → slice_get records at ≡ Some r → FitsIn Two r → at + 1 ≤ operation_limit → IsNextOn core cores first answered (Ok (Some r)) still (kept_at own_core own_cores records (at + 1))
  given_more r there fits few = (
    record {
      core_is = h.0.core_is;
      cores_is = h.0.cores_is;
      bytes = h.0.bytes ++ with_lf (record_text r);
      answered = record {
        faultless = refl;
        text = ap (λ bs. bs ++ with_lf (record_text r)) (h.0.answered.text ∙ append-nil (text_of (begun Two own_core own_cores answered)))
            ∙ sym (begun_push Two own_core own_cores answered r) ∙ sym (append-nil (text_of (begun Two own_core own_cores (answered ++ r ∷ []))));
        sound = record {
          core_fits = h.0.answered.sound.core_fits;
          cores_fit = h.0.answered.sound.cores_fit;
          few = (let count = h.0.answered.count in omega (arith, few, count, length-append answered (r ∷ [])));
          each_fits = fits_push Two answered r h.0.answered.sound.each_fits fits;
        };
        count = (let count = h.0.answered.count in omega (arith, count, length-append answered (r ∷ [])));
        one = h.0.answered.one;
        short = h.0.answered.short;
      };
      given = subst (λ bs. Consumes first still bs) (ap (λ bs. h.0.bytes ++ bs) (lines_more records at r there) ∙ sym (append_assoc h.0.bytes (with_lf (record_text r)) (lines_from records (at + 1)))) h.0.given;
    },
    h.1,
  )

  pub given_all : at ≡ length records → EndsWhole core cores first answered
  given_all all = record {
    text = h.0.bytes ++ lines_from records at;
    tells = consumes_end first still (h.0.bytes ++ lines_from records at) h.0.given (h.1 refl);
    spells = same_log (λ c n. Spells c n (h.0.bytes ++ lines_from records at) answered) h.0.core_is h.0.cores_is (Two, (h.0.answered.sound, spelled));
  }
    where
      last : lines_from records at ≡ with_lf (end_text (length answered))
      last = ap (λ (rs : List Record). text_of (map record_text rs) ++ text_of (end_text (length records) ∷ [])) (drop_all at records (omega (arith, all)))
          ∙ append-nil (with_lf (end_text (length records)))
          ∙ ap (λ n. with_lf (end_text n)) (sym all ∙ h.0.answered.count)

      spelled : h.0.bytes ++ lines_from records at ≡ spelling Two own_core own_cores answered
      spelled = ap (λ bs. bs ++ lines_from records at) (h.0.answered.text ∙ append-nil (text_of (begun Two own_core own_cores answered)))
          ∙ ap (λ bs. text_of (begun Two own_core own_cores answered) ++ bs) last ∙ sym (spelling_is Two own_core own_cores answered)

-- nothing stands past the end alone
pub nothing_from : {X : Type 0} (items : List X) (at : ℕ) → slice_get items at ≡ None → length items ≤ at
nothing_from items at h = grind (arith, common_steps, gets)

-- ---- the sources of all logs

-- each is the source of its core
source_fits : (core cores k : ℕ) (records : List (List Record)) (s : GivenLog) → slice_get (logs_from core cores records) k ≡ Some s → (s.core ≡ core + k) × (s.cores ≡ cores) × (s.given ≡ false)
source_fits core cores zero [] s h = absurd cc
source_fits core cores (suc k) [] s h = absurd cc
source_fits core cores zero (log ∷ records) s h =
    let e : record { core = core; cores = cores; records = log; given = false } ≡ s = cc in
    subst (λ (x : GivenLog). (x.core ≡ core + 0) × (x.cores ≡ cores) × (x.given ≡ false)) e ((let z : core ≡ core + 0 = omega arith in z), refl, refl)
source_fits core cores (suc k) (log ∷ records) s h =
    let t = source_fits (core + 1) cores k records s h in
    (t.0 ∙ (let e : (core + 1) + k ≡ core + suc k = omega arith in e), t.1, t.2)

pub all_fit : (sources : List GivenLog) → sources ≡ logs_from 0 (length sources) (records_of sources) → All (λ (log : GivenLog). AreOfLog log.records) sources
    → (core : ℕ) (s : GivenLog) → slice_get sources core ≡ Some s → (s.core ≡ core) × (s.cores ≡ length sources) × AreOfLog s.records × (s.given ≡ false)
all_fit sources is good core s there =
    let t = source_fits 0 (length sources) core (records_of sources) s (ap (λ ss. slice_get ss core) (sym is) ∙ there) in
    let within = slice_get_within sources core s there in
    let e : get_or sources core s ≡ s = (let h : Some (get_or sources core s) ≡ Some s = sym (slice_get-get_or sources core s within) ∙ there in cc) in
    (t.0 ∙ (let z : 0 + core ≡ core = omega arith in z), t.1, subst (λ (x : GivenLog). AreOfLog x.records) e (All-get_or (λ (log : GivenLog). AreOfLog log.records) sources core s within good), t.2)

-- the texts that they tell spell these logs
texts_spell : (core cores : ℕ) (records : List (List Record)) (texts : List (List ℕ)) → All AreOfLog records
    → core + length records ≡ cores → cores ≤ 64 → AllZip (λ (s : GivenLog) text. Tells (Some (text_left s.core s.cores s.records s.given)) text) (logs_from core cores records) texts
    → SpellFrom core cores texts records
texts_spell core cores [] [] good many few tells = tt
texts_spell core cores [] (t ∷ texts) good many few tells = absurd tells
texts_spell core cores (log ∷ records) [] good many few tells = absurd tells
texts_spell core cores (log ∷ records) (t ∷ texts) good many few tells =
    let first = All-head AreOfLog log records good in
    let later = texts_spell (core + 1) cores records texts (All-tail AreOfLog log records good) (omega (arith, many)) few tells.1 in
    ((Two, (record { core_fits = omega (arith, many); cores_fit = few; few = first.few; each_fits = first.fit }, sym tells.0)), later)

-- ---- the answer

-- what may be answered for these logs
abbrev pub IsVerdictOn : List (List Record) → Result Verdict JudgeFault → Type 0
IsVerdictOn logs r = MatchResult r (λ verdict. verdict ≡ verdict_of logs) (λ fault. (fault ≡ BadConfig Files) ⊎ (fault ≡ OutOfMemory))

-- what is answered to texts that spell these logs is the verdict on them, where no reader fails
answered_so : {S : Type 0} (before after : List S) (texts : List (List ℕ)) (logs : List (List Record)) (result : Result Verdict MergeFault) → SpellSet texts logs → IfSome (judged result) (IsAnswerTo texts)
    → IfErr result (λ fault. (file : ℕ) → fault ≡ Judge (Read file) → ReaderFailed {S = S} (λ _. 0) before after file) → IfErr result IsNoCount → IfSome (judged result) (IsVerdictOn logs)
answered_so before after texts logs (Ok verdict) spell answer read counted =
    let is = one_answer verdict_of texts (Ok verdict) (Ok (verdict_of logs)) tt tt answer (logs, spell, refl) in cc
answered_so before after texts logs (Err (Judge (Log file line f))) spell answer read counted =
    let is = one_answer verdict_of texts (Err (Log file line f)) (Ok (verdict_of logs)) tt tt answer (logs, spell, refl) in cc
answered_so before after texts logs (Err (Judge (Read file))) spell answer read counted =
    let failed : Failed 0 0 = (read file refl).1.3 in absurd (elim failed [ inl less ↦ omega (arith, less) | inr most ↦ omega (arith, most) ])
answered_so before after texts logs (Err (Judge (BadConfig count))) spell answer read counted = absurd (counted tt)
answered_so before after texts logs (Err (Judge OutOfMemory)) spell answer read counted = inr refl
answered_so before after texts logs (Err Write) spell answer read counted = tt

pub verdict_so : (sources after : List GivenLog) (old new : Option (List ℕ)) (result : Result Verdict MergeFault)
    → sources ≡ logs_from 0 (length sources) (records_of sources) → All (λ (log : GivenLog). AreOfLog log.records) sources → length sources ≤ 64
    → IsMergedBy (λ (s : GivenLog). Some (text_left s.core s.cores s.records s.given)) (λ _. 0) old new sources after result → IfErr result IsNoCount
    → IfSome (judged result) (IsVerdictOn (records_of sources))
verdict_so sources after old new result is good few b counted = answered_so sources after b.texts (records_of sources) result spell b.answers b.read counted
  where
    tells_in : GivenLog → List ℕ → Type 0
    tells_in s text = Tells (Some (text_left s.core s.cores s.records s.given)) text

    many : length b.texts ≡ length sources
    many = AllZip-long tells_in sources b.texts b.tells

    spell : SpellSet b.texts (records_of sources)
    spell = subst (λ n. SpellFrom 0 n b.texts (records_of sources)) (sym many) (texts_spell 0 (length sources) (records_of sources) b.texts (All-map AreOfLog (λ (log : GivenLog). log.records) sources good)
        (omega (arith, length-map sources (λ (log : GivenLog). log.records))) few (subst (λ ss. AllZip tells_in ss b.texts) is b.tells))
