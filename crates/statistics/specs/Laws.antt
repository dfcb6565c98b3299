-- What the numbers add up to.
use Rattle.std.specs.Prelude.{◌≡◌, ℕ, ◌+◌, ◌<◌, Bool, false, ◌&&◌, ◌==◌, List, length, count_by}
use Rattle.line_stamps.specs.Messages.{addr_of}
use Rattle.line_stamps.specs.declared.message.Message.{Message}
use Rattle.line_stamps.specs.declared.message.Reply.{Reply}
use Rattle.manager_slice.specs.declared.managed.HistoryEntry.{HistoryEntry}
use Rattle.manager_slice.specs.declared.managed.HistoryEntry.TheVariants.{Evicted, Served}
use Rattle.core_unit.specs.Kept.{Replays}
use Rattle.core_unit.specs.Parts.{UnitParts}
use Rattle.core_unit.specs.declared.entry.CoreEntry.{CoreEntry}
use Rattle.core_unit.specs.declared.entry.CoreEntry.TheVariants.{Got}
use Rattle.audit.specs.Lists.{history_of, transcript_of}
use Rattle.audit.specs.Pairs.{Agrees, slice_of}
use Rattle.statistics.specs.Columns.{counts}
use Rattle.statistics.specs.Sights.{core_sights}
use Rattle.statistics.specs.declared.column.Column.{Column}
use Rattle.statistics.specs.declared.column.Column.TheVariants.{Operations, Loads, Stores, Swaps}

-- how much a column counts for a core
abbrev pub count_of : Column → UnitParts → ℕ
count_of column p = count_by (counts column) (core_sights p)

-- the operations of a core are the records of its log, and each is a load, a store or a swap
pub record IsCounted (p : UnitParts) : Type 0 where
  pub operations : count_of Operations p ≡ length p.log
  pub acts : count_of Loads p + count_of Stores p + count_of Swaps p ≡ length p.log

abbrev pub LogsAreCounted : Type 0
LogsAreCounted = (p : UnitParts) → Replays p → IsCounted p

-- a core took such a reply to such a message from slice s of n
abbrev pub is_got_from : ℕ → ℕ → (Message → Bool) → (Reply → Bool) → CoreEntry → Bool
is_got_from n s asked answered (Got m r) = (slice_of n (addr_of m) == s) && (asked m && answered r)
is_got_from n s asked answered other = false

-- a slice gave such a reply to such a message from core c
abbrev pub is_served_to : ℕ → (Message → Bool) → (Reply → Bool) → HistoryEntry → Bool
is_served_to c asked answered (Served d m r) = (d == c) && (asked m && answered r)
is_served_to c asked answered (Evicted a) = false

-- if cores and slices say the same of each other, core c took as many such replies from slice s as slice s gave it
abbrev pub SumsAgree : Type 0
SumsAgree =
    (ts : List (List CoreEntry)) (hs : List (List HistoryEntry)) → Agrees ts hs → (c s : ℕ) → c < 64 → s < length hs
    → (asked : Message → Bool) (answered : Reply → Bool)
    → count_by (is_got_from (length hs) s asked answered) (transcript_of ts c) ≡ count_by (is_served_to c asked answered) (history_of hs s)
