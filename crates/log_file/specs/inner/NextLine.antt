-- The next line of a log, and the reader after it.
use Rattle.std.specs.Prelude.{◌≡◌, ℕ, ◌+◌, ◌<◌, ◌⊎◌, List, [], ◌∷◌, ◌++◌, length, Option, None, Some}
use Rattle.mem_op.specs.Limits.{operation_limit}
use Rattle.log_record.specs.declared.format.Format.{Format}
use Rattle.log_record.specs.declared.record.Record.{Record}
use Rattle.log_record.specs.Line.{record_text, end_text, FitsIn}
use Rattle.log_file.specs.declared.fault.FormatFault.TheVariants.{BadHeader, BadLine, TrailingBytes}
use Rattle.log_file.specs.declared.fault.LogFault.{LogFault}
use Rattle.log_file.specs.declared.fault.LogFault.TheVariants.{At, OutOfMemory, Read}
use Rattle.log_file.specs.declared.stage.Stage.{Stage}
use Rattle.log_file.specs.declared.stage.Stage.TheVariants as stage
use Rattle.log_file.specs.Answering.{Answering}
use Rattle.log_file.specs.OneLine.{HeaderIs, LeastHeader, LeastBody}
use Rattle.log_file.specs.Standing.{IsEnded, limit_at}

-- both are of the same log
pub record IsSameLog (old new : Answering) : Type 0 where
  pub core : new.core ≡ old.core
  pub cores : new.cores ≡ old.cores

-- what a whole line is if it isn't refused, and which was read last then
abbrev pub BehindAt : Stage → Answering → List ℕ → Option Record → Stage → Type 0
BehindAt stage.Header s line None next =
    (format : Format) × HeaderIs format s.core s.cores line × (next ≡ stage.Records format)
BehindAt stage.Header s line (Some r) next = ⊥
BehindAt (stage.Records format) s line None next = (line ≡ end_text s.count) × (next ≡ stage.Ended format)
BehindAt (stage.Records format) s line (Some r) next =
    (line ≡ record_text r) × FitsIn format r × (s.count < operation_limit) × (next ≡ stage.Records format)
BehindAt (stage.Ended format) s line r next = ⊥

abbrev pub IsBehind : Answering → List ℕ → Option Record → Stage → Type 0
IsBehind s line r next = BehindAt s.stage s line r next

-- the records so far and the one that a line was, if it was one
abbrev pub with_read : List Record → Option Record → List Record
with_read records None = records
with_read records (Some r) = records ++ r ∷ []

-- and how many these are
abbrev pub count_with : ℕ → Option Record → ℕ
count_with count None = count
count_with count (Some r) = count + 1

-- the line that ends with this part was taken, and was this record, if it was one
abbrev pub TakesLine : Answering → List ℕ → Option Record → Answering → Type 0
TakesLine old part r new =
    IsBehind old (old.begun ++ part) r new.stage
    × (new ≡ record old { stage = new.stage; count = count_with old.count r; begun = [] })

-- why a whole line is refused, after so many records
abbrev pub RefusedAt : Stage → ℕ → ℕ → ℕ → List ℕ → LogFault → Type 0
RefusedAt stage.Header core cores count line (At k f) = (k ≡ 1) × LeastHeader core cores line f
RefusedAt (stage.Records format) core cores count line (At k f) = (k ≡ count + 2) × LeastBody format count line f
RefusedAt (stage.Ended format) core cores count line (At k f) = (k ≡ count + 3) × (f ≡ TrailingBytes)
RefusedAt q core cores count line OutOfMemory = ⊥
RefusedAt q core cores count line Read = ⊥

abbrev pub IsRefused : Answering → List ℕ → LogFault → Type 0
IsRefused s line fault = RefusedAt s.stage s.core s.cores s.count line fault

-- the fault of a line that goes on too far
abbrev pub fault_of_more : Stage → ℕ → LogFault
fault_of_more stage.Header count = At 1 BadHeader
fault_of_more (stage.Records format) count = At (count + 2) BadLine
fault_of_more (stage.Ended format) count = At (count + 3) TrailingBytes

-- the line goes too far with this part: it is longer than a line may be, or comes after the end line
abbrev pub TooFarAt : Stage → List ℕ → List ℕ → Type 0
TooFarAt q line part = (limit_at q < length (line ++ part)) ⊎ (IsEnded q × (0 < length part))

abbrev pub IsTooFar : Answering → List ℕ → Type 0
IsTooFar s part = TooFarAt s.stage s.begun part

abbrev pub IsPartRefused : Answering → List ℕ → LogFault → Type 0
IsPartRefused s part fault = IsTooFar s part × (fault ≡ fault_of_more s.stage s.count)

-- the line that ends with this part is refused
abbrev pub IsLineRefused : Answering → List ℕ → LogFault → Type 0
IsLineRefused s part fault = IsRefused s (s.begun ++ part) fault ⊎ IsPartRefused s part fault
