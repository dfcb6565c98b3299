-- The text of each line of a log, without its line feed.
use Rattle.std.specs.Prelude.{◌≡◌, ℕ, ◌<◌, ◌≤◌, ◌^◌, Bool, true, false, IsTrue, List, [], ◌∷◌, ◌++◌, codes}
use Rattle.std.specs.List.{join_with_byte}
use Rattle.decimal_text.specs.Numbers.{numeral}
use Rattle.mem_op.specs.declared.id.Source.{Source}
use Rattle.mem_op.specs.declared.id.Source.TheVariants as source
use Rattle.mem_op.specs.Limits.{operation_limit}
use Rattle.log_record.specs.declared.format.Format.{Format}
use Rattle.log_record.specs.declared.format.Format.TheVariants.{One, Two}
use Rattle.log_record.specs.declared.act.Act.{Act}
use Rattle.log_record.specs.declared.act.Act.TheVariants as act
use Rattle.log_record.specs.declared.record.Record.{Record}

-- the number of a format
abbrev pub format_number : Format → ℕ
format_number One = 1
format_number Two = 2

-- whether a log of this format may have a record with this act: format 1 has no swaps
abbrev pub has_act : Format → Act → Bool
has_act format act.Store = true
has_act format (act.Load s) = true
has_act One (act.Swap s read) = false
has_act Two (act.Swap s read) = true

-- ---- the texts

-- `init`, or the core and the index of a store
abbrev pub source_text : Source → List ℕ
source_text source.Init = codes "init"
source_text (source.Store id) = numeral id.core ++ 46 ∷ numeral id.index

-- S for a store, L for a load, X for a swap
abbrev pub tag : Act → List ℕ
tag act.Store = codes "S"
tag (act.Load s) = codes "L"
tag (act.Swap s read) = codes "X"

-- the fields that come after those that every record has
abbrev pub last_fields : Act → List (List ℕ)
last_fields act.Store = []
last_fields (act.Load s) = source_text s ∷ []
last_fields (act.Swap s read) = source_text s ∷ numeral read ∷ []

abbrev pub fields_of : Record → List (List ℕ)
fields_of r = tag r.act ∷ numeral r.addr ∷ numeral r.value ∷ numeral r.ts ∷ numeral r.rank ∷ last_fields r.act

-- a record's line: its fields, with one space between them
unfoldable pub record_text : Record → List ℕ
record_text r = join_with_byte 32 (fields_of r)

-- the first line of a log in this format, for this core of `cores`
unfoldable pub header_text : ℕ → ℕ → ℕ → List ℕ
header_text format core cores =
    codes "tardis-log " ++ (numeral format ++ (codes " core " ++ (numeral core ++ (codes " of " ++ numeral cores))))

-- the last line of a log of `count` records
unfoldable pub end_text : ℕ → List ℕ
end_text count = codes "end " ++ numeral count

-- ---- the shapes
-- A number in a line may have any size. So a line has the shape of a record if it is the text of some record,
-- whatever the size of its numbers. Headers and end lines likewise.

-- the shape of a record that a log of this format may have
abbrev pub IsRecordShape : Format → List ℕ → Type 0
IsRecordShape format line = (r : Record) × (line ≡ record_text r) × IsTrue (has_act format r.act)

abbrev pub IsHeaderShape : ℕ → List ℕ → Type 0
IsHeaderShape format line = (core : ℕ) × ((cores : ℕ) × (line ≡ header_text format core cores))

-- the shape of a header, in either format
abbrev pub IsSomeHeader : List ℕ → Type 0
IsSomeHeader line = (format : Format) × IsHeaderShape (format_number format) line

abbrev pub IsEndShape : List ℕ → Type 0
IsEndShape line = (count : ℕ) × (line ≡ end_text count)

-- ---- the ranges

abbrev pub SourceFits : Source → Type 0
SourceFits source.Init = Unit {0}
SourceFits (source.Store id) = (id.core < 64) × (id.index < operation_limit)

abbrev pub ActFits : Act → Type 0
ActFits act.Store = Unit {0}
ActFits (act.Load s) = SourceFits s
ActFits (act.Swap s read) = SourceFits s × (read < 2 ^ 64)

-- the numbers of a record are in range
pub record Fits (r : Record) : Type 0 where
  pub value : r.value < 2 ^ 64
  pub ts : r.ts ≤ 281474976710656
  pub rank : r.rank < 4294967296
  pub addr : r.addr < 65536
  pub act : ActFits r.act

-- a log of this format may have the record, and its numbers are in range
pub record FitsIn (format : Format) (r : Record) : Type 0 where
  pub has : IsTrue (has_act format r.act)
  pub numbers : Fits r

-- ---- the lengths

-- the most bytes that a log's header may have, without its line feed
abbrev pub line_limit : ℕ
line_limit = 80

-- The most bytes that a later line may have, by the log's format. No line whose numbers are in range has more.
abbrev pub limit_of : Format → ℕ
limit_of One = line_limit
limit_of Two = 96
