-- How lines come from memory and go back to it.
use Rattle.std.specs.Prelude.{ℕ, max, unwrap_or}
use Rattle.std.specs.Ordering.{nat_cmp}
use Rattle.std.specs.FinMap as map
use Rattle.std.specs.FinMap.{FinMap}
use Rattle.mem_op.specs.declared.id.Source.TheVariants.{Init}
use Rattle.line_stamps.specs.declared.line.Line.{Line}
use Rattle.memory_stamp.specs.StoredParts.{StoredParts}
use Rattle.memory_stamp.specs.declared.memory.MemorySlice.{MemorySlice}

-- the word at an address; it is 0 and from no store if none was put back there
abbrev pub word_at : FinMap nat_cmp StoredParts → ℕ → StoredParts
word_at words a = unwrap_or (map.get words a) (record { value = 0; source = Init })

-- a line filled from memory: its lease begins and ends at the memory stamp
abbrev pub filled_line : MemorySlice → ℕ → Line
filled_line m a =
    let word = word_at m.words a in
    record { value = word.value; source = word.source; stamps = record { wts = m.mts; rts = m.mts; wr = m.mrank } }

-- memory after a line went to it
abbrev pub with_line : MemorySlice → ℕ → Line → MemorySlice
with_line m a l = record {
  words = map.insert m.words a (record { value = l.value; source = l.source });
  mts = max m.mts l.stamps.rts;
  mrank = max m.mrank l.stamps.wr;
}
