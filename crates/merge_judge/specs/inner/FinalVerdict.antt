-- The faults of logs that have ended, and the verdict on them.
use Rattle.std.specs.Prelude.{◌≡◌, ℕ, ◌<◌, ◌⊎◌, true, length, ◌++◌, List, Option, None, Some, Result, Ok, Err, IfErr, slice_get}
use Rattle.log_record.specs.declared.record.Record.{Record}
use Rattle.log_record.specs.Entries.{entries}
use Rattle.core_check.specs.CoreOrder.{is_core_fault}
use Rattle.address_check.specs.declared.fault.AddressFault.{AddressFault}
use Rattle.address_check.specs.AddressFaults.{least_address_fault}
use Rattle.log_file.specs.Sets.{ReaderFailed, SpellSet, TellEach, text_at}
use Rattle.log_file.specs.Log.{Spells}
use Rattle.verdict.specs.declared.answer.Verdict.{Verdict}
use Rattle.verdict.specs.declared.answer.Verdict.TheVariants.{Yes, No}
use Rattle.verdict.specs.declared.judge_fault.JudgeFault.{JudgeFault}
use Rattle.verdict.specs.declared.judge_fault.JudgeFault.TheVariants.{Read}
use Rattle.verdict.specs.Judgement.{IsAnswerTo}
use Rattle.verdict.specs.VerdictOf.{verdict_of}
use Rattle.verdict.specs.FaultParts.{FaultParts}
use Rattle.verdict.specs.Faults.{from_address}
use Rattle.verdict.specs.declared.rule.Rule.TheVariants.{CoreOrder}
use Rattle.merge_judge.specs.inner.Lanes.{AreSound, NoFalls, front_list, log_at}
use Rattle.log_file.specs.declared.fault.LogFault.{LogFault}
use Rattle.log_file.specs.declared.fault.SetFault.{SetFault}
use Rattle.log_file.specs.Answers.{IsFaultOrDevice}
use Rattle.merge_judge.specs.LaneParts.{LaneParts}
use Rattle.merge_judge.specs.Answer.{IsQuietUpTo}
use Rattle.merge_judge.specs.Begun.{BeginsLog}

-- none of the first n logs has a fault
abbrev pub NoneFaulty : List LaneParts → ℕ → Type 0
NoneFaulty lanes n = (k : ℕ) (lane : LaneParts) → k < n → slice_get lanes k ≡ Some lane → lane.fault ≡ None

-- none of the first n logs falls
abbrev pub NoneFalls : List LaneParts → ℕ → Type 0
NoneFalls lanes n = (k : ℕ) (lane : LaneParts) → k < n → slice_get lanes k ≡ Some lane → lane.falls ≡ None

abbrev pub IsFirstFaulty : List LaneParts → SetFault → Type 0
IsFirstFaulty lanes e =
    ((lane : LaneParts) × (slice_get lanes e.file ≡ Some lane) × (lane.fault ≡ Some e.fault)) × NoneFaulty lanes e.file

abbrev pub IsFirstFall : List LaneParts → (ℕ × ℕ) → Type 0
IsFirstFall lanes at =
    ((lane : LaneParts) × (slice_get lanes at.0 ≡ Some lane) × (lane.falls ≡ Some at.1)) × NoneFalls lanes at.0

-- it is a core-order fault at a record that falls; or no log falls, and it is the least address fault
abbrev pub IsFaultIn : List LaneParts → List (List Record) → FaultParts → Type 0
IsFaultIn lanes merged fault =
    ((fault.rule ≡ CoreOrder) × (is_core_fault (log_at merged fault.id.core) fault.id.index ≡ true))
    ⊎ (NoFalls lanes × ((f : AddressFault) × (least_address_fault (entries merged) ≡ Some f) × (fault ≡ from_address f)))

-- a verdict is on these records, which the texts spell; with a Yes no log has a fault or falls, and a No's fault is one of theirs
abbrev pub IsClean : List LaneParts → List (List Record) → List (List ℕ) → Result Verdict JudgeFault → Type 0
IsClean lanes merged texts (Ok (Yes count)) =
    SpellSet texts merged × (Yes count ≡ verdict_of merged) × AreSound lanes
IsClean lanes merged texts (Ok (No fault)) = SpellSet texts merged × IsFaultIn lanes merged fault
IsClean lanes merged texts (Err fault) = Unit {0}

-- A text begins with the merged records of its log, and then the front. If the log has ended without a fault, the text
-- spells just these records. A fault that was found is the text's, or it comes of memory or of the reader.
pub record IsBegun (core cores : ℕ) (text : List ℕ) (merged : List Record) (front : Option Record) (fault : Option LogFault) : Type 0 where
  pub begins : BeginsLog core cores text (merged ++ front_list front)
  pub whole : front ≡ None → fault ≡ None → Spells core cores text merged
  pub faults : (f : LogFault) → fault ≡ Some f → IsFaultOrDevice core cores text f

pub record AreBegun (texts : List (List ℕ)) (lanes : List LaneParts) (merged : List (List Record)) : Type 0 where
  pub many : length merged ≡ length texts
  pub lanes_many : length lanes ≡ length texts
  pub each : (k : ℕ) (lane : LaneParts) → slice_get lanes k ≡ Some lane → IsBegun k (length texts) (text_at texts k) (log_at merged k) lane.front lane.fault

-- the answer to the texts that the readers told
pub record IsFinalVerdict {S : Type 0} (remaining : S → Option (List ℕ)) (failed : S → ℕ) (before after : List S) (lanes : List LaneParts) (merged : List (List Record)) (result : Result Verdict JudgeFault) : Type 0 where
  pub texts : List (List ℕ)
  pub tells : TellEach remaining before texts
  pub answers : IsAnswerTo texts result
  pub begun : AreBegun texts lanes merged
  pub clean : IsClean lanes merged texts result
  pub failed_at : IfErr result (λ fault. (file : ℕ) → fault ≡ Read file → ReaderFailed failed before after file)
  pub quiet : IsQuietUpTo failed before after (Some result)
