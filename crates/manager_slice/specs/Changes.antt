-- A slice's state after evictions and services, with its order of service.
use Rattle.std.specs.Prelude.{ℕ, nat_eq, List, [], ◌∷◌, Option, Some, None}
use Rattle.std.specs.FinMap.{from_entries}
use Rattle.std.specs.Map.{remove_entry}
use Rattle.line_stamps.specs.declared.line.Line.{Line}
use Rattle.line_stamps.specs.declared.message.Message.{Message}
use Rattle.line_stamps.specs.declared.message.Reply.{Reply}
use Rattle.memory_stamp.specs.Memory.{with_line}
use Rattle.manager_slice.specs.Table.{Slice}
use Rattle.manager_slice.specs.declared.managed.HistoryEntry.{HistoryEntry}
use Rattle.manager_slice.specs.declared.managed.HistoryEntry.TheVariants.{Evicted, Served}
use Rattle.manager_slice.specs.declared.managed.ManagedLine.{ManagedLine}
use Rattle.manager_slice.specs.declared.state.SliceState.{SliceState}

-- the state as the table sees it, without the order
abbrev pub slice_of : SliceState → Slice
slice_of s = record { lines = from_entries s.lines; memory = s.memory }

-- the line l of address a went to memory
abbrev pub spilled : SliceState → ℕ → Line → SliceState
spilled s a l = record { lines = remove_entry (nat_eq a) s.lines; memory = with_line s.memory a l }

-- the line that gave way went to memory, if there was one
abbrev pub after_eviction : Option (ℕ × Line) → SliceState → SliceState
after_eviction None s = s
after_eviction (Some e) s = spilled s e.0 e.1

-- the line of address a is now this one, and the most recently served
abbrev pub served : SliceState → ℕ → ManagedLine → SliceState
served s a x = record { lines = (a, x) ∷ remove_entry (nat_eq a) s.lines; memory = s.memory }

-- the entries of the history for a message that was answered
abbrev pub entries_of : Option (ℕ × Line) → ℕ → Message → Reply → List HistoryEntry
entries_of None c m r = Served c m r ∷ []
entries_of (Some e) c m r = Evicted e.0 ∷ Served c m r ∷ []
