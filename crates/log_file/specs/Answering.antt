-- What a reader of records was fed, and what it has answered.
use Rattle.std.specs.Prelude.{◌≡◌, ℕ, ◌<◌, ◌≤◌, List, [], ◌∷◌, ◌++◌, length, take, Option, None, Some}
use Rattle.log_record.specs.declared.record.Record.{Record}
use Rattle.log_file.specs.declared.fault.LogFault.{LogFault}
use Rattle.log_file.specs.declared.stage.Stage.{Stage}
use Rattle.log_file.specs.OneLine.{IsOneLine}
use Rattle.log_file.specs.Standing.{IsInRecords, IsSound, limit_at, whole_text}

-- A reader of the log of one core: which kind of whole line it read last, how many records it has read, the bytes of the line that isn't whole yet,
-- and the fault that it answers from then on, if one came.
pub record Answering : Type 0 where
  pub core : ℕ
  pub cores : ℕ
  pub stage : Stage
  pub count : ℕ
  pub begun : List ℕ
  pub fault : Option LogFault

-- the bytes that were fed, if these are the records in them: whole lines, and the beginning of one more
abbrev pub fed_text : Answering → List Record → List ℕ
fed_text s records = whole_text s.stage s.core s.cores records ++ s.begun

-- No fault came, and the records of these bytes were answered, each as its line ended.
pub record HasAnswered (s : Answering) (bytes : List ℕ) (records : List Record) : Type 0 where
  pub faultless : s.fault ≡ None
  pub text : bytes ≡ fed_text s records
  pub sound : IsSound s.stage s.core s.cores records s.begun
  pub count : s.count ≡ length records
  pub one : IsOneLine s.begun
  pub short : length s.begun ≤ limit_at s.stage

-- no fault came yet
abbrev pub IsFaultless : Answering → Type 0
IsFaultless s = (bytes : List ℕ) × ((records : List Record) × HasAnswered s bytes records)

-- What the reader answers to a piece after these bytes and records: the next record, whose line ends with the bytes that were used; or none, and then
-- the whole piece was used.
abbrev pub AnswersOne : List ℕ → List Record → List ℕ → (ℕ × Option Record) → Answering → Type 0
AnswersOne bytes records piece (used, None) new =
    (used ≡ length piece) × HasAnswered new (bytes ++ piece) records
AnswersOne bytes records piece (used, Some r) new =
    (0 < used) × HasAnswered new (bytes ++ take used piece) (records ++ r ∷ []) × (new.begun ≡ []) × IsInRecords new.stage
