-- The records of a source's log, one after another.
use Rattle.std.specs.Prelude.{◌≡◌, ℕ, true, List, [], ◌∷◌, ◌++◌, Option, None, Some, Result, Ok, Err}
use Rattle.std.specs.Io.KnownBytes.{Consumes, IsAtEnd}
use Rattle.log_record.specs.declared.record.Record.{Record}
use Rattle.log_file.specs.declared.fault.LogFault.{LogFault}
use Rattle.log_file.specs.Answering.{HasAnswered}
use Rattle.log_file.specs.Answers.{IsFaultOrDevice}
use Rattle.log_file.specs.Devices.{Tells}
use Rattle.log_file.specs.Feeding.{IsSettled}
use Rattle.log_file.specs.Log.{Spells}
use Rattle.merge_judge.specs.Begun.{BeginsLog}
use Rattle.merge_judge.specs.LaneParts.{KeptLog}
use Rattle.merge_judge.specs.OpenedLog.{OpenedLog}

-- what comes of taking a record from the bytes that were read
abbrev pub TakesOne : List ℕ → List Record → OpenedLog → Result (Option Record) LogFault → OpenedLog → Type 0
TakesOne bytes records old (Ok None) new = (new.unused ≡ []) × HasAnswered new.reader (bytes ++ old.unused) records
TakesOne bytes records old (Ok (Some r)) new =
    (front : List ℕ) × (front ++ new.unused ≡ old.unused) × HasAnswered new.reader (bytes ++ front) (records ++ r ∷ [])
TakesOne bytes records old (Err fault) new = IsSettled old.reader.core old.reader.cores (bytes ++ old.unused) fault

-- this core's log has answered these records; `first` is what the source told at first, and `still` what it tells now
pub record Follows (core cores : ℕ) (first still : Option (List ℕ)) (log : OpenedLog) (records : List Record) : Type 0 where
  pub core_is : log.reader.core ≡ core
  pub cores_is : log.reader.cores ≡ cores
  pub bytes : List ℕ
  pub answered : HasAnswered log.reader bytes records
  pub given : Consumes first still (bytes ++ log.unused)

-- the text that the source told spells the log of these records, or begins with them and has this fault
pub record EndsWhole (core cores : ℕ) (first : Option (List ℕ)) (records : List Record) : Type 0 where
  pub text : List ℕ
  pub tells : Tells first text
  pub spells : Spells core cores text records

pub record EndsAt (core cores : ℕ) (first : Option (List ℕ)) (records : List Record) (fault : LogFault) : Type 0 where
  pub text : List ℕ
  pub begins : BeginsLog core cores text records
  pub tells : Tells first text
  pub holds : IsFaultOrDevice core cores text fault

-- ---- a log that may hold all bytes that are left of it

abbrev pub FollowsOn : ℕ → ℕ → Option (List ℕ) → Option (List ℕ) → KeptLog → List Record → Type 0
FollowsOn core cores first still kept records =
    Follows core cores first still kept.log records × (kept.whole ≡ true → IsAtEnd still)

-- the answer after these records: the next one, or None if the log has ended whole
abbrev pub IsNextOn : ℕ → ℕ → Option (List ℕ) → List Record → Result (Option Record) LogFault → Option (List ℕ) → KeptLog → Type 0
IsNextOn core cores first records (Ok (Some r)) still new = FollowsOn core cores first still new (records ++ r ∷ [])
IsNextOn core cores first records (Ok None) still new = EndsWhole core cores first records
IsNextOn core cores first records (Err fault) still new = EndsAt core cores first records fault
