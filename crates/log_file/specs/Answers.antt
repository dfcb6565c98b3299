-- The answers to the bytes of a log.
use Rattle.std.specs.Prelude.{ℕ, List, Result, Ok, Err}
use Rattle.std.specs.Global.{Vec}
use Rattle.log_record.specs.declared.record.Record.{Record}
use Rattle.log_file.specs.declared.fault.LogFault.{LogFault}
use Rattle.log_file.specs.declared.fault.LogFault.TheVariants.{At, OutOfMemory, Read}
use Rattle.log_file.specs.Log.{Spells, IsFirstFault}

-- a fault that bytes have, not lack of memory or a failed read
abbrev pub IsOfText : LogFault → Type 0
IsOfText (At k f) = Unit {0}
IsOfText OutOfMemory = ⊥
IsOfText Read = ⊥

-- the first fault of the bytes
abbrev pub IsFaultOf : ℕ → ℕ → List ℕ → LogFault → Type 0
IsFaultOf core cores bytes (At k f) = IsFirstFault core cores bytes k f
IsFaultOf core cores bytes OutOfMemory = ⊥
IsFaultOf core cores bytes Read = ⊥

-- the first fault of the bytes, or lack of memory instead
abbrev pub IsFaultOrMemory : ℕ → ℕ → List ℕ → LogFault → Type 0
IsFaultOrMemory core cores bytes (At k f) = IsFirstFault core cores bytes k f
IsFaultOrMemory core cores bytes OutOfMemory = Unit {0}
IsFaultOrMemory core cores bytes Read = ⊥

-- the first fault of the bytes, or lack of memory or a failed read instead
abbrev pub IsFaultOrDevice : ℕ → ℕ → List ℕ → LogFault → Type 0
IsFaultOrDevice core cores bytes (At k f) = IsFirstFault core cores bytes k f
IsFaultOrDevice core cores bytes OutOfMemory = Unit {0}
IsFaultOrDevice core cores bytes Read = Unit {0}

-- the log that the bytes spell, or their first fault; lack of memory may come instead of either
abbrev pub IsAnswer : ℕ → ℕ → List ℕ → Result (Vec Record) LogFault → Type 0
IsAnswer core cores bytes (Ok log) = Spells core cores bytes log.items
IsAnswer core cores bytes (Err fault) = IsFaultOrMemory core cores bytes fault

-- the same for the bytes of a source: a failed read may come too, and the records are kept in a list
abbrev pub IsListAnswer : {L : Type 0} → (L → List Record) → ℕ → ℕ → List ℕ → Result L LogFault → Type 0
IsListAnswer records core cores bytes (Ok list) = Spells core cores bytes (records list)
IsListAnswer records core cores bytes (Err fault) = IsFaultOrDevice core cores bytes fault

-- the same with a list of the records alone
abbrev pub IsReadAnswer : ℕ → ℕ → List ℕ → Result (Vec Record) LogFault → Type 0
IsReadAnswer = IsListAnswer (λ (log : Vec Record). log.items)
