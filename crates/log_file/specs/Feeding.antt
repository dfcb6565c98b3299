-- What a log reader was fed, and what it answers.
use Rattle.std.specs.Prelude.{◌≡◌, ℕ, List, ◌++◌, length, Result, Ok, Err}
use Rattle.std.specs.Global.{Vec}
use Rattle.log_record.specs.declared.record.Record.{Record}
use Rattle.log_file.specs.declared.fault.FormatFault.{FormatFault}
use Rattle.log_file.specs.declared.fault.FormatFault.TheVariants.{Truncated}
use Rattle.log_file.specs.declared.fault.LogFault.{LogFault}
use Rattle.log_file.specs.declared.fault.LogFault.TheVariants.{At, OutOfMemory, Read}
use Rattle.log_file.specs.Answers.{IsFaultOf}
use Rattle.log_file.specs.Log.{Spells, lines_of, FaultAt, IsFirstFault}

-- a reader of the log of one core: the bytes it was fed, or the fault that it answers from then on
pub record Feeding : Type 0 where
  pub core : ℕ
  pub cores : ℕ
  pub fed : Result (List ℕ) LogFault

-- the first fault of the bytes, however they go on; lack of memory may come instead
abbrev pub IsSettled : ℕ → ℕ → List ℕ → LogFault → Type 0
IsSettled core cores bytes (At k f) = (more : List ℕ) → IsFirstFault core cores (bytes ++ more) k f
IsSettled core cores bytes OutOfMemory = Unit {0}
IsSettled core cores bytes Read = ⊥

-- what feeding a piece answers and leaves
abbrev pub Feeds : ℕ → ℕ → Result (List ℕ) LogFault → List ℕ → Result (Unit {0}) LogFault → Result (List ℕ) LogFault → Type 0
Feeds core cores (Err f) piece r new = (r ≡ Err f) × (new ≡ Err f)
Feeds core cores (Ok bytes) piece (Ok _) new = new ≡ Ok (bytes ++ piece)
Feeds core cores (Ok bytes) piece (Err f) new = (new ≡ Err f) × IsSettled core cores (bytes ++ piece) f

-- if no fault came, no fault but Truncated holds of the bytes that were fed
abbrev pub IsOpen : ℕ → ℕ → Result (List ℕ) LogFault → Type 0
IsOpen core cores (Ok bytes) = (k : ℕ) (f : FormatFault) → FaultAt core cores (lines_of bytes) k f → f ≡ Truncated
IsOpen core cores (Err f) = Unit {0}

-- what finishing answers: the log that the bytes spell, or their first fault; or the fault that came before
abbrev pub Finishes : ℕ → ℕ → Result (List ℕ) LogFault → Result (Vec Record) LogFault → Type 0
Finishes core cores (Err f) r = r ≡ Err f
Finishes core cores (Ok bytes) (Ok log) = Spells core cores bytes log.items
Finishes core cores (Ok bytes) (Err fault) = IsFaultOf core cores bytes fault

-- how many bytes were fed; 0 after a fault
abbrev pub fed_len : Result (List ℕ) LogFault → ℕ
fed_len (Ok bytes) = length bytes
fed_len (Err f) = 0
