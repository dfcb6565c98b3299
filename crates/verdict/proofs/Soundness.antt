-- What an examination answers, and what its Yes says of the set that the texts spell.
use Rattle.std.specs.Prelude.{◌≡◌, ℕ, suc, ◌+◌, List, [], ◌∷◌, drop, length, map, refl, Option, None, Some, Result, Ok, Err, IfErr, IsErrAnd, OnOk}
use Rattle.std.proofs.Common.{sym, subst, ◌∙◌, ap, arith, zero-add}
use Rattle.std.proofs.lemmas.List.{append-nil, drop_all}
use Rattle.std.proofs.lemmas.Slice.Zip.{AllZip-long}
use Rattle.line_stamps.specs.Least.{least_of}
use Rattle.log_record.specs.declared.record.Record.{Record}
use Rattle.core_program.specs.declared.instruction.Instruction.{Instruction}
use Rattle.core_check.specs.CoreFaults.{order_faults}
use Rattle.core_check.specs.FaultOrder.{core_fault_cmp}
use Rattle.log_file.specs.declared.fault.LogFault.{LogFault}
use Rattle.log_file.specs.declared.fault.LogFault.TheVariants.{At, OutOfMemory as NoMemory, Read as ReadFailed}
use Rattle.log_file.specs.Sets.{IsSetFault, SpellFrom, SpellSet, TellEach}
use Rattle.log_file.proofs.Devices.{told}
use Rattle.log_file.proofs.Sets.{each_tells, spelled_at, spelled_count}
use Rattle.verdict.specs.declared.answer.Verdict.{Verdict}
use Rattle.verdict.specs.declared.answer.Verdict.TheVariants.{Yes, No}
use Rattle.verdict.specs.declared.basis.Examined.{Examined}
use Rattle.verdict.specs.declared.judge_fault.JudgeFault.{JudgeFault}
use Rattle.verdict.specs.declared.judge_fault.JudgeFault.TheVariants.{BadConfig, Log, OutOfMemory, Read}
use Rattle.verdict.specs.Bases.{IsExaminedBy, verdict_in}
use Rattle.verdict.specs.Counts.{AreAsMany, IsBadCount}
use Rattle.verdict.specs.SetFaults.{from_set}
use Rattle.verdict.specs.Judgement.{IsAnswerAgainst, IsAnswerBy, IsReadUpTo, IsYes, OnYes, SpellConsistentSet, SpellFlatRunBy}
use Rattle.verdict.specs.VerdictOf.{verdict_of, verdict_by, verdict_with}
use Rattle.verdict.proofs.Bridge.{yes_by_is_consistent, run_yes_runs_flat}

-- a bad count answers all texts
pub bad_count_answers : (judged : List (List Record) → Verdict) (texts : List (List ℕ)) (fault : JudgeFault) → IsBadCount fault → IsAnswerBy judged texts (Err fault)
bad_count_answers judged texts (BadConfig count) h = tt
bad_count_answers judged texts fault h = absurd h

verdict_alone : verdict_by None ≡ verdict_of
verdict_alone = λ i logs. verdict_with (least_of core_fault_cmp (append-nil (order_faults logs) i)) logs

-- the verdict of an examination is the answer of the judge against the programs that are given
answers : (programs : Option (List (List Instruction))) (texts : List (List ℕ)) (result : Result Examined JudgeFault) → IsExaminedBy programs texts result
    → IsAnswerAgainst programs texts (verdict_in result)
answers programs texts result h = against programs (by_verdict result h)
  where
    by_verdict : (r : Result Examined JudgeFault) → IsExaminedBy programs texts r → IsAnswerBy (verdict_by programs) texts (verdict_in r)
    by_verdict (Ok examined) h = (h.0, h.1, h.2.verdict)
    by_verdict (Err fault) h = h

    against : (ps : Option (List (List Instruction))) → IsAnswerBy (verdict_by ps) texts (verdict_in result) → IsAnswerAgainst ps texts (verdict_in result)
    against None h = subst (λ judged. IsAnswerBy judged texts (verdict_in result)) verdict_alone h
    against (Some ps) h = h

yes_count : (verdict : Verdict) → IsYes verdict → (count : ℕ) × (verdict ≡ Yes count)
yes_count (Yes count) h = (count, refl)
yes_count (No fault) h = absurd h

-- a set that gets Yes against programs is performed by a whole run of the flat machine
flat_by : (programs : Option (List (List Instruction))) (texts : List (List ℕ)) (logs : List (List Record)) (count : ℕ) → AreAsMany (length texts) programs → SpellSet texts logs
    → verdict_by programs logs ≡ Yes count → SpellFlatRunBy programs texts
flat_by None texts logs count known spelled judged = tt
flat_by (Some programs) texts logs count known spelled judged =
    (logs, spelled, run_yes_runs_flat programs logs count known.0 (known.1 ∙ sym (spelled_count 0 (length texts) texts logs spelled)) judged)

-- ---- what is said of the texts that the readers told

-- how far they were read, what is answered, and what a Yes says
abbrev pub Said : {S : Type 0} → (S → Option (List ℕ)) → List S → List S → Option (List (List Instruction)) → Result Examined JudgeFault → Type 0
Said remaining old new programs result =
    (texts : List (List ℕ)) × TellEach remaining old texts
    × IfErr result (IsReadUpTo texts old new)
    × IsExaminedBy programs texts result
    × IsAnswerAgainst programs texts (verdict_in result)
    × OnYes (verdict_in result) (SpellConsistentSet texts × SpellFlatRunBy programs texts)

pub said : {S : Type 0} (remaining : S → Option (List ℕ)) (old new : List S) (programs : Option (List (List Instruction))) (texts : List (List ℕ)) (result : Result Examined JudgeFault) → TellEach remaining old texts
    → OnOk result (AreAsMany (length texts) programs) → IfErr result (IsReadUpTo texts old new) → IsExaminedBy programs texts result → Said remaining old new programs result
said remaining old new programs texts result tell known read h = (texts, tell, read, h, answers programs texts result h, yes result known h)
  where
    yes : (r : Result Examined JudgeFault) → OnOk r (AreAsMany (length texts) programs) → IsExaminedBy programs texts r → OnYes (verdict_in r) (SpellConsistentSet texts × SpellFlatRunBy programs texts)
    yes (Ok examined) known (logs, spelled, by) = λ h.
        let (count, is) = yes_count examined.verdict h in
        let judged = sym by.verdict ∙ is in
        ((logs, spelled, yes_by_is_consistent programs logs count judged), flat_by programs texts logs count known spelled judged)
    yes (Err fault) known h = tt

-- a bad count is answered before any is read
pub refused : {S : Type 0} (remaining : S → Option (List ℕ)) (readers : List S) (programs : Option (List (List Instruction))) (result : Result Examined JudgeFault) (fault : JudgeFault)
    → IsErrAnd result (λ e. e ≡ fault) → IsBadCount fault → Said remaining readers readers programs result
refused remaining readers programs (Ok examined) fault same bad = absurd same
refused remaining readers programs (Err e) fault same bad =
    let texts = map (λ reader. told (remaining reader)) readers in
    let is_bad = subst IsBadCount (sym same) bad in
    said remaining readers readers programs texts (Err e) (each_tells remaining readers) tt (unread e is_bad) (bad_count_answers (verdict_by programs) texts e is_bad)
  where
    unread : (f : JudgeFault) → IsBadCount f → IsReadUpTo (map (λ reader. told (remaining reader)) readers) readers readers f
    unread (BadConfig count) h = refl
    unread f h = absurd h

-- the fault of a set is told as it is
pub set_refused : {S : Type 0} (remaining : S → Option (List ℕ)) (old new : List S) (programs : Option (List (List Instruction))) (texts : List (List ℕ)) (file : ℕ) (fault : LogFault)
    → TellEach remaining old texts → IsSetFault texts file fault → drop (file + 1) new ≡ drop (file + 1) old → Said remaining old new programs (Err (from_set file fault))
set_refused remaining old new programs texts file (At line f) tell h unread = said remaining old new programs texts (Err (Log file line f)) tell tt (h.before, unread) h
set_refused remaining old new programs texts file NoMemory tell h unread = said remaining old new programs texts (Err OutOfMemory) tell tt (file, (h.1, unread)) tt
set_refused remaining old new programs texts file ReadFailed tell h unread = said remaining old new programs texts (Err (Read file)) tell tt (h.1, unread) h

-- where memory is refused after the logs were read, all are
pub all_read : {S : Type 0} (remaining : S → Option (List ℕ)) (old new : List S) (texts : List (List ℕ)) (logs : List (List Record)) → length new ≡ length old
    → TellEach remaining old texts → SpellSet texts logs → IsReadUpTo texts old new OutOfMemory
all_read remaining old new texts logs len tell spell =
    let many : length texts ≡ length old = AllZip-long _ old texts tell in (
      length texts,
      (
        λ k lt. let log = spelled_at 0 (length texts) texts logs k spell lt in (log.0, rw (zero-add k) at log.1),
        drop_all (length texts + 1) new (omega (arith, many, len)) ∙ sym (drop_all (length texts + 1) old (omega (arith, many))),
      ),
    )
