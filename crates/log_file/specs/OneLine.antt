-- The faults of one whole line, as far as that line decides them.
use Rattle.std.specs.Prelude.{◌≡◌, ◌≢◌, ℕ, ◌<◌, ◌≤◌, ◌⊎◌, ◌==◌, false, All, List, Option, Some, None}
use Rattle.mem_op.specs.Limits.{operation_limit}
use Rattle.log_record.specs.declared.format.Format.{Format}
use Rattle.log_record.specs.declared.record.Record.{Record}
use Rattle.log_record.specs.Line.{format_number, header_text, record_text, end_text, IsRecordShape, IsSomeHeader, IsEndShape, FitsIn, line_limit, limit_of}
use Rattle.log_file.specs.declared.fault.FormatFault.{FormatFault}
use Rattle.log_file.specs.declared.fault.FormatFault.TheVariants.{BadHeader, BadLine, OutOfRange, TooMany, CountDiffers, TrailingBytes, Truncated, WrongCore}
use Rattle.log_file.specs.Log.{IsLonger, IsHeaderOutOfRange, IsRecordOutOfRange, IsOtherHeader, number}

-- it has no line feed
abbrev pub IsOneLine : List ℕ → Type 0
IsOneLine line = All (λ b. (b == 10) ≡ false) line

-- this fault holds of a whole first line
abbrev pub HeaderHolds : ℕ → ℕ → List ℕ → FormatFault → Type 0
HeaderHolds core cores line BadHeader = IsLonger line_limit line ⊎ (¬ (IsSomeHeader line))
HeaderHolds core cores line OutOfRange = IsHeaderOutOfRange line
HeaderHolds core cores line WrongCore = IsOtherHeader core cores line
HeaderHolds core cores line BadLine = ⊥
HeaderHolds core cores line TooMany = ⊥
HeaderHolds core cores line CountDiffers = ⊥
HeaderHolds core cores line TrailingBytes = ⊥
HeaderHolds core cores line Truncated = ⊥

-- this fault holds of a whole later line of a log of this format, up to the end line, after `count` records
abbrev pub BodyHolds : Format → ℕ → List ℕ → FormatFault → Type 0
BodyHolds format count line BadLine = IsLonger (limit_of format) line ⊎ ((¬ (IsRecordShape format line)) × (¬ (IsEndShape line)))
BodyHolds format count line OutOfRange = IsRecordOutOfRange line
BodyHolds format count line TooMany = IsRecordShape format line × (operation_limit ≤ count)
BodyHolds format count line CountDiffers = (n : ℕ) × (line ≡ end_text n) × (n ≢ count)
BodyHolds format count line BadHeader = ⊥
BodyHolds format count line TrailingBytes = ⊥
BodyHolds format count line Truncated = ⊥
BodyHolds format count line WrongCore = ⊥

abbrev pub Least : (FormatFault → Type 0) → FormatFault → Type 0
Least Holds f = Holds f × ((g : FormatFault) → Holds g → number f ≤ number g)

abbrev pub LeastHeader : ℕ → ℕ → List ℕ → FormatFault → Type 0
LeastHeader core cores line f = Least (HeaderHolds core cores line) f

abbrev pub LeastBody : Format → ℕ → List ℕ → FormatFault → Type 0
LeastBody format count line f = Least (BodyHolds format count line) f

-- a whole first line is the header of this core of this many, with both numbers in range
abbrev pub HeaderIs : Format → ℕ → ℕ → List ℕ → Type 0
HeaderIs format core cores line = (line ≡ header_text (format_number format) core cores) × (core < cores) × (cores ≤ 64)

-- a whole later line of a log of this format has no fault: it is this record, or the end line if there is none
abbrev pub BodyIs : Format → ℕ → List ℕ → Option Record → Type 0
BodyIs format count line (Some r) = (line ≡ record_text r) × FitsIn format r × (count < operation_limit)
BodyIs format count line None = line ≡ end_text count
