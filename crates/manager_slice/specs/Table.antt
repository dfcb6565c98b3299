-- The table of the manager: what a slice may do about a message, and what that leaves. Which Shared line is evicted, and
-- which line a full slice recalls, is a free choice.
use Rattle.std.specs.Prelude.{◌≡◌, ◌≢◌, ℕ, ◌+◌, ◌<◌, ◌≤◌, Bool, true, false, ◌==◌, if◌then◌else◌, List, [], ◌∷◌, Option, Some, None, unwrap_or, ◌⊎◌}
use Rattle.std.specs.Ordering.{nat_cmp}
use Rattle.std.specs.FinMap as map
use Rattle.std.specs.FinMap.{FinMap}
use Rattle.line_stamps.specs.RecallParts.{RecallParts}
use Rattle.line_stamps.specs.declared.line.Line.{Line}
use Rattle.line_stamps.specs.declared.message.Message.{Message}
use Rattle.line_stamps.specs.declared.message.Message.TheVariants.{ShReq, ExReq, WbRep, FlushRep}
use Rattle.line_stamps.specs.declared.message.RecallKind.TheVariants.{WriteBack, Flush}
use Rattle.line_stamps.specs.declared.message.Reply.{Reply}
use Rattle.line_stamps.specs.declared.message.Reply.TheVariants.{ShRep, ExRep, RenewRep, UpgradeRep, Taken, Busy}
use Rattle.lease_rule.specs.ConfigParts.{ConfigParts}
use Rattle.lease_rule.specs.Lease.{renewed_rts}
use Rattle.memory_stamp.specs.Memory.{filled_line, with_line}
use Rattle.memory_stamp.specs.declared.memory.MemorySlice.{MemorySlice}
use Rattle.line_stamps.specs.Messages.{addr_of}
use Rattle.manager_slice.specs.Messages.{is_request}
use Rattle.manager_slice.specs.declared.managed.HistoryEntry.{HistoryEntry}
use Rattle.manager_slice.specs.declared.managed.HistoryEntry.TheVariants.{Evicted, Served}
use Rattle.manager_slice.specs.declared.managed.ManagedLine.{ManagedLine}
use Rattle.manager_slice.specs.declared.managed.ManagedLine.TheVariants.{Shared, Exclusive}

-- a slice: its lines by address, and the memory below them
pub record Slice : Type 0 where
  pub lines : FinMap nat_cmp ManagedLine
  pub memory : MemorySlice

-- a slice when a machine starts: no lines, and nothing in memory
abbrev pub opening : Slice
opening = record { lines = map.empty; memory = record { words = map.empty; mts = 0; mrank = 0 } }

-- the line as a request meets it, filled from memory if it is absent
abbrev pub met_line : Slice → ℕ → ManagedLine
met_line s a = unwrap_or (map.get s.lines a) (Shared (filled_line s.memory a))

abbrev pub with_managed : Slice → ℕ → ManagedLine → Slice
with_managed s a x = record { lines = map.insert s.lines a x; memory = s.memory }

-- the slice after its Shared line l of address a went to memory
abbrev pub without_line : Slice → ℕ → Line → Slice
without_line s a l = record { lines = map.remove s.lines a; memory = with_line s.memory a l }

-- the line with the lease that a core at `pts` gets
abbrev pub leased : Line → ℕ → ConfigParts → Line
leased l pts g = record {
  value = l.value;
  source = l.source;
  stamps = record { wts = l.stamps.wts; rts = renewed_rts l.stamps pts g.lease; wr = l.stamps.wr };
}

-- whether a request's copy is of the line's version
abbrev pub is_copy : Option ℕ → Line → Bool
is_copy None l = false
is_copy (Some wts) l = wts == l.stamps.wts

-- the answer to a request to read, after the line was leased
abbrev pub share_reply : Option ℕ → Line → Reply
share_reply copy l = if is_copy copy l then RenewRep l.stamps.rts else ShRep l

-- the answer to a request to write
abbrev pub own_reply : Option ℕ → Line → Reply
own_reply copy l = if is_copy copy l then UpgradeRep l.stamps.rts else ExRep l

-- the line of the address is there, or one more line fits
abbrev pub HasRoom : ConfigParts → Slice → ℕ → Type 0
HasRoom g s a = (map.contains_key s.lines a ≡ true) ⊎ (map.len s.lines < g.slice_lines)

abbrev pub IsFull : ConfigParts → Slice → Type 0
IsFull g s = g.slice_lines ≤ map.len s.lines

abbrev pub NoneShared : Slice → Type 0
NoneShared s = (a : ℕ) (l : Line) → map.get s.lines a ≢ Some (Shared l)

-- the Shared line of address a goes to memory
pub data Evicts (s : Slice) (a : ℕ) : Slice → Type 0 where
  evicts : (l : Line) → map.get s.lines a ≡ Some (Shared l) → Evicts s a (without_line s a l)

-- core c's message is answered, and not with Busy
pub data Serves (g : ConfigParts) (s : Slice) (c : ℕ) : Message → Reply → Slice → Type 0 where
  takes_written_back : (a : ℕ) (l : Line) → map.get s.lines a ≡ Some (Exclusive c) →
      Serves g s c (WbRep a l) Taken (with_managed s a (Shared l))
  takes_flushed : (a : ℕ) (l : Line) → map.get s.lines a ≡ Some (Exclusive c) →
      Serves g s c (FlushRep a l) Taken (with_managed s a (Shared l))
  shares : (a : ℕ) (copy : Option ℕ) (pts : ℕ) (l : Line) → met_line s a ≡ Shared l → HasRoom g s a →
      Serves g s c (ShReq a copy pts) (share_reply copy (leased l pts g)) (with_managed s a (Shared (leased l pts g)))
  gives : (a : ℕ) (copy : Option ℕ) (l : Line) → met_line s a ≡ Shared l → HasRoom g s a →
      Serves g s c (ExReq a copy) (own_reply copy l) (with_managed s a (Exclusive c))

-- a message is answered Busy with this recall
pub data IsBusy (g : ConfigParts) (s : Slice) : Message → RecallParts → Type 0 where
  owned_to_read : (a : ℕ) (copy : Option ℕ) (pts o : ℕ) → map.get s.lines a ≡ Some (Exclusive o) →
      IsBusy g s (ShReq a copy pts) (record { rts = pts + g.lease; addr = a; owner = o; kind = WriteBack })
  owned_to_write : (a : ℕ) (copy : Option ℕ) (o : ℕ) → map.get s.lines a ≡ Some (Exclusive o) →
      IsBusy g s (ExReq a copy) (record { rts = 0; addr = a; owner = o; kind = Flush })
  full : (m : Message) (b o : ℕ) → is_request m ≡ true → map.get s.lines (addr_of m) ≡ None → IsFull g s → NoneShared s →
      map.get s.lines b ≡ Some (Exclusive o) → IsBusy g s m (record { rts = 0; addr = b; owner = o; kind = Flush })

-- core c's message is handled: the reply, the entries of the history, and the slice that is left
pub data Handles (g : ConfigParts) (s : Slice) (c : ℕ) (m : Message) : Reply → List HistoryEntry → Slice → Type 0 where
  serves : (r : Reply) (t : Slice) → Serves g s c m r t → Handles g s c m r (Served c m r ∷ []) t
  makes_room : (a : ℕ) (r : Reply) (between t : Slice) → map.get s.lines (addr_of m) ≡ None → IsFull g s →
      Evicts s a between → Serves g between c m r t → Handles g s c m r (Evicted a ∷ Served c m r ∷ []) t
  is_busy : (x : RecallParts) → IsBusy g s m x → Handles g s c m (Busy x) [] s
