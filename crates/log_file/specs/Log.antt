-- A log file: its one spelling in each format, and its first fault.
use Rattle.std.specs.Prelude.{◌≡◌, ◌≢◌, ℕ, ◌+◌, ◌<◌, ◌≤◌, ◌⊎◌, ◌==◌, if◌then◌else◌, is_some, All, IsTrue, List, [], ◌∷◌, ◌++◌, codes, length, map, slice_index_or}
use Rattle.std.specs.List.{flat_map, AllByRecursion, slice_split}
use Rattle.mem_op.specs.Limits.{operation_limit}
use Rattle.decimal_text.specs.Reading.{after}
use Rattle.log_record.specs.declared.format.Format.{Format}
use Rattle.log_record.specs.declared.format.Format.TheVariants.{One, Two}
use Rattle.log_record.specs.declared.record.Record.{Record}
use Rattle.log_record.specs.Line.{format_number, has_act, record_text, header_text, end_text, IsRecordShape, IsSomeHeader, IsEndShape, Fits, FitsIn, line_limit, limit_of}
use Rattle.log_file.specs.declared.fault.FormatFault.{FormatFault}
use Rattle.log_file.specs.declared.fault.FormatFault.TheVariants.{BadHeader, BadLine, OutOfRange, TooMany, CountDiffers, TrailingBytes, Truncated, WrongCore}

-- ---- the spelling

-- a line with its line feed
abbrev pub with_lf : List ℕ → List ℕ
with_lf line = line ++ 10 ∷ []

-- the header and the records' lines
abbrev pub begun : Format → ℕ → ℕ → List Record → List (List ℕ)
begun format core cores records = header_text (format_number format) core cores ∷ map record_text records

-- all lines of a log
abbrev pub log_lines : Format → ℕ → ℕ → List Record → List (List ℕ)
log_lines format core cores records = begun format core cores records ++ end_text (length records) ∷ []

abbrev pub text_of : List (List ℕ) → List ℕ
text_of lines = flat_map with_lf lines

-- the spelling of a log in a format
abbrev pub spelling : Format → ℕ → ℕ → List Record → List ℕ
spelling format core cores records = text_of (log_lines format core cores records)

-- what has a spelling in a format: the log of one of at most 64 cores, with records that the format has, and not too many
pub record IsLog (format : Format) (core cores : ℕ) (records : List Record) : Type 0 where
  pub core_fits : core < cores
  pub cores_fit : cores ≤ 64
  pub few : length records ≤ operation_limit
  pub each_fits : AllByRecursion (FitsIn format) records

-- a log of this format may have each of these records
abbrev pub HasEach : Format → List Record → Type 0
HasEach format records = All (λ r. IsTrue (has_act format r.act)) records

-- the bytes spell the log of this core in this format
abbrev pub SpellsIn : Format → ℕ → ℕ → List ℕ → List Record → Type 0
SpellsIn format core cores bytes records = IsLog format core cores records × (bytes ≡ spelling format core cores records)

-- they spell it in some format
abbrev pub Spells : ℕ → ℕ → List ℕ → List Record → Type 0
Spells core cores bytes records = (format : Format) × SpellsIn format core cores bytes records

-- ---- the first fault

-- The bytes between line feeds. Each but the last is a whole line, with a line feed after it; the last is what stands after the last line feed,
-- perhaps nothing.
abbrev pub lines_of : List ℕ → List (List ℕ)
lines_of bytes = slice_split (λ b. b == 10) bytes

-- line k, counted from 1
abbrev pub line : List (List ℕ) → ℕ → List ℕ
line lines k = slice_index_or ([] ∷ lines) k []

abbrev pub IsWhole : List (List ℕ) → ℕ → Type 0
IsWhole lines k = (0 < k) × (k < length lines)

-- The format that line 1 says: 2 if it begins as a header of format 2 does, else 1. If line 1 is no header, it has a fault itself, so that the format
-- doesn't matter to the first fault.
unfoldable pub said_format : List (List ℕ) → Format
said_format lines = if is_some (after (codes "tardis-log 2 core ") (line lines 1)) then Two else One

-- the most bytes of a line after the header
abbrev pub body_limit : List (List ℕ) → ℕ
body_limit lines = limit_of (said_format lines)

abbrev pub IsLonger : ℕ → List ℕ → Type 0
IsLonger limit line = limit < length line

-- no line of the end line's shape stands between line 1 and line k
abbrev pub NoEndBefore : List (List ℕ) → ℕ → Type 0
NoEndBefore lines k = (j : ℕ) → 1 < j → j < k → IsEndShape (line lines j) → ⊥

-- line k comes after the header, and no later than the end line
pub record IsBody (lines : List (List ℕ)) (k : ℕ) : Type 0 where
  pub later : 1 < k
  pub there : k ≤ length lines
  pub open_yet : NoEndBefore lines k

-- the end line is the first whole line of its shape after line 1
pub record IsEnd (lines : List (List ℕ)) (k : ℕ) : Type 0 where
  pub body : IsBody lines k
  pub whole : IsWhole lines k
  pub shape : IsEndShape (line lines k)

-- a header of a core whose number isn't below the number of cores, or of more than 64 cores
abbrev pub IsHeaderOutOfRange : List ℕ → Type 0
IsHeaderOutOfRange line =
    (format : Format) × ((c : ℕ) × ((n : ℕ) × (line ≡ header_text (format_number format) c n) × (¬ ((c < n) × (n ≤ 64)))))

-- A record of either format that is out of range. If a log of its format has no such records, the line is a bad line too, and that fault has the
-- smaller number.
abbrev pub IsRecordOutOfRange : List ℕ → Type 0
IsRecordOutOfRange line = (r : Record) × (line ≡ record_text r) × (¬ (Fits r))

-- a header of another core, or of another number of cores
abbrev pub IsOtherHeader : ℕ → ℕ → List ℕ → Type 0
IsOtherHeader core cores line =
    (format : Format) × ((c : ℕ) × ((n : ℕ) × (line ≡ header_text (format_number format) c n) × ((c ≢ core) ⊎ (n ≢ cores))))

-- The fault holds at line k. If no earlier line has a fault, the lines between the header and line k are records, k - 2 of them.
abbrev pub FaultAt : ℕ → ℕ → List (List ℕ) → ℕ → FormatFault → Type 0
FaultAt core cores lines k BadHeader =
    (k ≡ 1) × (IsLonger line_limit (line lines 1) ⊎ (IsWhole lines 1 × (¬ (IsSomeHeader (line lines 1)))))
FaultAt core cores lines k BadLine =
    IsBody lines k
    × (IsLonger (body_limit lines) (line lines k)
    ⊎ (IsWhole lines k × (¬ (IsRecordShape (said_format lines) (line lines k))) × (¬ (IsEndShape (line lines k)))))
FaultAt core cores lines k OutOfRange =
    ((k ≡ 1) × IsWhole lines 1 × IsHeaderOutOfRange (line lines 1))
    ⊎ (IsBody lines k × IsWhole lines k × IsRecordOutOfRange (line lines k))
FaultAt core cores lines k TooMany =
    IsBody lines k × IsWhole lines k × IsRecordShape (said_format lines) (line lines k) × (operation_limit + 2 ≤ k)
FaultAt core cores lines k CountDiffers =
    IsEnd lines k × ((n : ℕ) × (line lines k ≡ end_text n) × (n + 2 ≢ k))
FaultAt core cores lines k TrailingBytes =
    ((j : ℕ) × IsEnd lines j × (k ≡ j + 1)) × ((0 < length (line lines k)) ⊎ IsWhole lines k)
FaultAt core cores lines k Truncated =
    (k ≡ length lines) × NoEndBefore lines k
FaultAt core cores lines k WrongCore =
    (k ≡ 1) × IsWhole lines 1 × IsOtherHeader core cores (line lines 1)

abbrev pub number : FormatFault → ℕ
number BadHeader = 20
number BadLine = 21
number OutOfRange = 22
number TooMany = 23
number CountDiffers = 24
number TrailingBytes = 25
number Truncated = 26
number WrongCore = 27

-- the fault at the first line that has one, and of those there the one with the least number
pub record IsFirstFault (core cores : ℕ) (bytes : List ℕ) (k : ℕ) (f : FormatFault) : Type 0 where
  pub holds : FaultAt core cores (lines_of bytes) k f
  pub least : (j : ℕ) (g : FormatFault) → FaultAt core cores (lines_of bytes) j g → (k < j) ⊎ ((k ≡ j) × (number f ≤ number g))

-- no fault holds
abbrev pub HasNoFault : ℕ → ℕ → List ℕ → Type 0
HasNoFault core cores bytes = (k : ℕ) (f : FormatFault) → FaultAt core cores (lines_of bytes) k f → ⊥
