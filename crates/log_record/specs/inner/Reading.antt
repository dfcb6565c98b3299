-- Reading a line from left to right, as functions on its bytes. Private contracts cite these; the public ones
-- speak of the texts alone.
use Rattle.std.specs.Prelude.{ℕ, if◌then◌else◌, List, Option, Some, is_some, codes}
use Rattle.decimal_text.specs.Reading.{◌>>=◌, whole, number_at, after, field_at, last_number}
use Rattle.mem_op.specs.declared.id.Source.{Source}
use Rattle.mem_op.specs.declared.id.Source.TheVariants as source
use Rattle.log_record.specs.declared.format.Format.{Format}
use Rattle.log_record.specs.declared.format.Format.TheVariants.{One, Two}
use Rattle.log_record.specs.declared.act.Act.{Act}
use Rattle.log_record.specs.declared.act.Act.TheVariants as act
use Rattle.log_record.specs.declared.reading.Kind.{Kind}
use Rattle.log_record.specs.declared.reading.Kind.TheVariants as kind
use Rattle.log_record.specs.declared.record.Record.{Record}

-- ---- records

-- two numbers with a dot between them
unfoldable pub store_source_at : List ℕ → Option (Source × List ℕ)
store_source_at bytes =
    field_at 46 bytes >>= λ core. number_at core.1 >>= λ index. Some (source.Store (record { core = core.0; index = index.0 }), index.1)

unfoldable pub source_at : List ℕ → Option (Source × List ℕ)
source_at bytes =
    if is_some (after (codes "init") bytes) then (after (codes "init") bytes >>= λ rest. Some (source.Init, rest)) else store_source_at bytes

-- the three fields after the tag
pub record Fields : Type 0 where
  pub addr : ℕ
  pub value : ℕ
  pub ts : ℕ

unfoldable pub fields_at : List ℕ → Option (Fields × List ℕ)
fields_at bytes =
    field_at 32 bytes >>= λ addr. field_at 32 addr.1 >>= λ value. field_at 32 value.1 >>= λ ts. Some (record { addr = addr.0; value = value.0; ts = ts.0 }, ts.1)

-- the letter that the line of a load or a swap begins with, and the bytes after the space that follows it
unfoldable pub reading_letter_at : List ℕ → Option (Kind × List ℕ)
reading_letter_at bytes =
    if is_some (after (codes "L ") bytes) then (after (codes "L ") bytes >>= λ rest. Some (kind.Load, rest)) else (after (codes "X ") bytes >>= λ rest. Some (kind.Swap, rest))

unfoldable pub letter_at : List ℕ → Option (Kind × List ℕ)
letter_at bytes =
    if is_some (after (codes "S ") bytes) then (after (codes "S ") bytes >>= λ rest. Some (kind.Store, rest)) else reading_letter_at bytes

-- the act, from the bytes after the rank; a store has nothing there
unfoldable pub act_at : Kind → List ℕ → Option (Act × List ℕ)
act_at kind.Store bytes = Some (act.Store, bytes)
act_at kind.Load bytes = after (codes " ") bytes >>= λ rest. source_at rest >>= λ s. Some (act.Load s.0, s.1)
act_at kind.Swap bytes =
    after (codes " ") bytes >>= λ rest. source_at rest >>= λ s. after (codes " ") s.1 >>= λ last. number_at last >>= λ read. Some (act.Swap s.0 read.0, read.1)

abbrev pub made : Act → Fields → ℕ → Record
made a f rank = record { value = f.value; ts = f.ts; rank = rank; addr = f.addr; act = a }

unfoldable pub lettered_at : List ℕ → Option (Record × List ℕ)
lettered_at bytes =
    letter_at bytes >>= λ l. fields_at l.1 >>= λ f. number_at f.1 >>= λ rank. act_at l.0 rank.1 >>= λ a. Some (made a.0 f.0 rank.0, a.1)

-- the record whose line this is, whatever the size of its numbers
unfoldable pub record_of : List ℕ → Option Record
record_of line = whole (lettered_at line)

-- ---- the lines around the records

-- the two numbers of a header, after its first words
unfoldable pub header_numbers : List ℕ → Option (ℕ × ℕ)
header_numbers bytes = number_at bytes >>= λ core. after (codes " of ") core.1 >>= λ rest. last_number rest >>= λ cores. Some (core.0, cores)

-- the format that a header's first words name, and the bytes after them
unfoldable pub first_words : List ℕ → Option (Format × List ℕ)
first_words line =
    if is_some (after (codes "tardis-log 1 core ") line) then (after (codes "tardis-log 1 core ") line >>= λ rest. Some (One, rest)) else (after (codes "tardis-log 2 core ") line >>= λ rest. Some (Two, rest))

unfoldable pub header_of : List ℕ → Option (Format × (ℕ × ℕ))
header_of line = first_words line >>= λ front. header_numbers front.1 >>= λ x. Some (front.0, x)

-- the number of an end line
unfoldable pub end_of : List ℕ → Option ℕ
end_of line = after (codes "end ") line >>= λ rest. last_number rest
