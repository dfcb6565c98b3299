-- The core machine: cores and slices, what each event may lead to, and runs. Which line goes when a cache or a slice is full
-- is a free choice.
use Rattle.std.specs.Prelude.{◌≡◌, ℕ, ◌%◌, Bool, true, false, not, ◌||◌, List, [], ◌∷◌, ◌++◌, replicate, Option, Some, None, is_some, is_none, map as list_map, slice_get, slice_set}
use Rattle.std.specs.FinMap as map
use Rattle.mem_op.specs.declared.id.Op.{Op}
use Rattle.line_stamps.specs.declared.line.Line.{Line}
use Rattle.line_stamps.specs.declared.message.Message.{Message}
use Rattle.line_stamps.specs.declared.message.Message.TheVariants.{FlushRep}
use Rattle.line_stamps.specs.declared.message.Recall.{Recall}
use Rattle.line_stamps.specs.declared.message.RecallKind.TheVariants.{Flush}
use Rattle.line_stamps.specs.declared.message.Reply.{Reply}
use Rattle.line_stamps.specs.declared.message.Reply.TheVariants as reply
use Rattle.lease_rule.specs.ConfigParts.{ConfigParts}
use Rattle.core_program.specs.declared.instruction.Instruction.{Instruction}
use Rattle.private_cache.specs.Answers.{give_back}
use Rattle.private_cache.specs.Steps.{is_exclusive}
use Rattle.private_cache.specs.Table.{Hit, filled, given}
use Rattle.private_cache.specs.declared.held.Held.{Held}
use Rattle.private_cache.specs.declared.held.Held.TheVariants.{Shared, Exclusive}
use Rattle.manager_slice.specs.Lines.{is_some_shared}
use Rattle.line_stamps.specs.Messages.{addr_of}
use Rattle.manager_slice.specs.Messages.{is_request}
use Rattle.manager_slice.specs.Table.{Slice, Evicts, Handles, opening as new_slice}
use Rattle.manager_slice.specs.declared.managed.HistoryEntry.{HistoryEntry}
use Rattle.core_unit.specs.Core.{Core, new_core, next_of, op_addr, next_id, tries, next_request, after_hit, has_place, has_dropped, has_given, has_asked, has_taken, has_let_go, has_bumped, fits}
use Rattle.core_unit.specs.declared.outcome.Outcome.{Outcome}
use Rattle.core_unit.specs.declared.outcome.Outcome.TheVariants.{Performed, Dropped, Sent, Ended, Took, Busy, Gave, Bumped, Served, Spilled, NoEffect}
use Rattle.core_machine.specs.declared.event.Event.{Event}
use Rattle.core_machine.specs.declared.event.Event.TheVariants as event

pub record World : Type 0 where
  pub cores : List Core
  pub slices : List Slice

-- all cores at the start of their programs, and all slices empty
abbrev pub opening : List (List Instruction) → ℕ → World
opening programs slices = record { cores = list_map new_core programs; slices = replicate slices new_slice }

abbrev pub with_core : World → ℕ → Core → World
with_core w c u = record w { cores = slice_set w.cores c u }

-- ---- addresses and their slices

abbrev pub slice_number : ConfigParts → ℕ → ℕ
slice_number g a = a % g.slices

abbrev pub with_slice : ConfigParts → World → ℕ → Slice → World
with_slice g w a s = record w { slices = slice_set w.slices (slice_number g a) s }

-- ---- the events without effect

-- the core whose event this is; a spill isn't a core's
abbrev pub core_event : Event → Option ℕ
core_event (event.Turn c) = Some c
core_event (event.Serve c) = Some c
core_event (event.Take c) = Some c
core_event (event.Recall c x) = Some c
core_event (event.Evict c a) = Some c
core_event (event.Spill a) = None
core_event (event.Increment c) = Some c

-- a core's event in which no slice takes part
abbrev pub is_alone : Event → Bool
is_alone (event.Turn c) = true
is_alone (event.Serve c) = false
is_alone (event.Take c) = true
is_alone (event.Recall c x) = true
is_alone (event.Evict c a) = true
is_alone (event.Spill a) = false
is_alone (event.Increment c) = true

-- whether the event doesn't apply to its core
abbrev pub bars : Event → Core → Bool
bars (event.Turn c) u = is_some u.hand
bars (event.Serve c) u = is_none u.hand || is_some u.kept
bars (event.Take c) u = is_none u.kept
bars (event.Recall c x) u = is_some u.hand || not (is_exclusive (map.get u.lines x.addr))
bars (event.Evict c a) u = is_some u.hand || is_none (map.get u.lines a)
bars (event.Spill a) u = true
bars (event.Increment c) u = is_some u.hand

-- nor does any to a core that isn't there
abbrev pub bars_at : Event → Option Core → Bool
bars_at e None = true
bars_at e (Some u) = bars e u

-- a slice spills only a line that is there and Shared
abbrev pub bars_spill : ℕ → Option Slice → Bool
bars_spill a None = true
bars_spill a (Some s) = not (is_some_shared (map.get s.lines a))

abbrev pub is_barred : ConfigParts → World → Event → Bool
is_barred g w (event.Turn c) = bars_at (event.Turn c) (slice_get w.cores c)
is_barred g w (event.Serve c) = bars_at (event.Serve c) (slice_get w.cores c)
is_barred g w (event.Take c) = bars_at (event.Take c) (slice_get w.cores c)
is_barred g w (event.Recall c x) = bars_at (event.Recall c x) (slice_get w.cores c)
is_barred g w (event.Evict c a) = bars_at (event.Evict c a) (slice_get w.cores c)
is_barred g w (event.Spill a) = bars_spill a (slice_get w.slices (slice_number g a))
is_barred g w (event.Increment c) = bars_at (event.Increment c) (slice_get w.cores c)

-- ---- the events of one core

-- the event may lead core c from u to the state after it, with this outcome
pub data CoreLeads (g : ConfigParts) (c : ℕ) (u : Core) : Event → Outcome → Core → Type 0 where
  turn_hits : (op : Op) (hit : Hit) → u.hand ≡ None → next_of u ≡ Some op → tries c u op ≡ Some hit →
      CoreLeads g c u (event.Turn c) (Performed (next_id c u)) (after_hit g u op hit)
  turn_drops : (op : Op) (b : ℕ) (l : Line) → u.hand ≡ None → next_of u ≡ Some op → tries c u op ≡ None →
      has_place g u (op_addr op) ≡ false → map.get u.lines b ≡ Some (Shared l) →
      CoreLeads g c u (event.Turn c) (Dropped b) (has_dropped u b)
  turn_gives : (op : Op) (b : ℕ) (modified : Bool) (l : Line) → u.hand ≡ None → next_of u ≡ Some op → tries c u op ≡ None →
      has_place g u (op_addr op) ≡ false → map.get u.lines b ≡ Some (Exclusive modified l) →
      CoreLeads g c u (event.Turn c) (Sent (FlushRep b l)) (has_given u Flush b l)
  turn_asks : (op : Op) → u.hand ≡ None → next_of u ≡ Some op → tries c u op ≡ None → has_place g u (op_addr op) ≡ true →
      CoreLeads g c u (event.Turn c) (Sent (next_request u op)) (has_asked u (next_request u op))
  turn_ends : u.hand ≡ None → next_of u ≡ None → CoreLeads g c u (event.Turn c) Ended u
  takes : (m : Message) (x : Reply) (held : Held) → u.hand ≡ Some m → u.kept ≡ Some x → fits m x ≡ true → has_place g u (addr_of m) ≡ true →
      filled (map.get u.lines (addr_of m)) x ≡ Some held →
      CoreLeads g c u (event.Take c) Took (has_taken u (addr_of m) held)
  takes_nothing : (m : Message) → u.hand ≡ Some m → u.kept ≡ Some reply.Taken → is_request m ≡ false →
      CoreLeads g c u (event.Take c) Took (has_let_go u)
  takes_busy : (m : Message) (x : Recall) → u.hand ≡ Some m → u.kept ≡ Some (reply.Busy x) → is_request m ≡ true →
      CoreLeads g c u (event.Take c) (Busy x) (has_let_go u)
  recall_gives : (x : Recall) (modified : Bool) (l : Line) → u.hand ≡ None → map.get u.lines x.addr ≡ Some (Exclusive modified l) →
      CoreLeads g c u (event.Recall c x) (Gave (give_back x.kind x.addr (given x.kind l x.rts g.lease)))
      (has_given u x.kind x.addr (given x.kind l x.rts g.lease))
  evict_drops : (b : ℕ) (l : Line) → u.hand ≡ None → map.get u.lines b ≡ Some (Shared l) →
      CoreLeads g c u (event.Evict c b) (Dropped b) (has_dropped u b)
  evict_gives : (b : ℕ) (modified : Bool) (l : Line) → u.hand ≡ None → map.get u.lines b ≡ Some (Exclusive modified l) →
      CoreLeads g c u (event.Evict c b) (Gave (FlushRep b l)) (has_given u Flush b l)
  increments : u.hand ≡ None → CoreLeads g c u (event.Increment c) Bumped (has_bumped u)

-- ---- the events of the machine

-- the event may lead from w to the state after it, with this outcome
pub data Leads (g : ConfigParts) (w : World) : Event → Outcome → World → Type 0 where
  by_core : (c : ℕ) (e : Event) (o : Outcome) (u v : Core) → slice_get w.cores c ≡ Some u → CoreLeads g c u e o v → Leads g w e o (with_core w c v)
  -- a message that wasn't served yet
  serves : (c : ℕ) (u : Core) (m : Message) (x : Reply) (entries : List HistoryEntry) (s t : Slice) → slice_get w.cores c ≡ Some u →
      u.hand ≡ Some m → u.kept ≡ None → slice_get w.slices (slice_number g (addr_of m)) ≡ Some s → Handles g s c m x entries t →
      Leads g w (event.Serve c) (Served x) (with_slice g (with_core w c (record u { kept = Some x })) (addr_of m) t)
  spills : (a : ℕ) (s t : Slice) → slice_get w.slices (slice_number g a) ≡ Some s → Evicts s a t → Leads g w (event.Spill a) Spilled (with_slice g w a t)
  no_effect : (e : Event) → is_barred g w e ≡ true → Leads g w e NoEffect w

-- the events may lead, one by one, from w to the last state
pub data Run (g : ConfigParts) (w : World) : List Event → World → Type 0 where
  start : Run g w [] w
  next : (events : List Event) (e : Event) (o : Outcome) (between t : World) → Run g w events between → Leads g between e o t → Run g w (events ++ e ∷ []) t
