-- No event is refused with 14 or with 11.
use Rattle.std.proofs.Common.{◌≡◌, ◌++◌, ◌∷◌, [], ◌+◌, List, take, ap, sym, subst, ◌∙◌, ℕ, inl, inr, Bool, true, false, refl, length}
use Rattle.std.specs.Prelude.{option_and_then, Option, Some, None, ◌||◌, nat_lt, nat_eq, is_some, if◌then◌else◌, slice_get, slice_set, Result, Ok, Err}
use Rattle.std.specs.FinMap as map
use Rattle.std.specs.Map.{lookup}
use Rattle.mem_op.specs.declared.id.Op.{Op}
use Rattle.line_stamps.specs.declared.fault.StampFault.{StampFault}
use Rattle.line_stamps.specs.declared.line.Line.{Line}
use Rattle.line_stamps.specs.declared.message.Message.{Message}
use Rattle.line_stamps.specs.declared.message.Message.TheVariants.{ShReq, ExReq, WbRep, FlushRep}
use Rattle.line_stamps.specs.declared.message.Recall.{Recall}
use Rattle.line_stamps.specs.declared.message.RecallKind.{RecallKind}
use Rattle.line_stamps.specs.declared.message.RecallKind.TheVariants.{WriteBack, Flush}
use Rattle.line_stamps.specs.declared.message.Reply.{Reply}
use Rattle.line_stamps.specs.declared.message.Reply.TheVariants.{ShRep, ExRep, RenewRep, UpgradeRep, Taken, Busy}
use Rattle.line_stamps.specs.Messages.{addr_of}
use Rattle.lease_rule.specs.ConfigParts.{ConfigParts}
use Rattle.memory_stamp.proofs.Maps.{get-lookup}
use Rattle.core_program.specs.declared.instruction.Instruction.{Instruction}
use Rattle.private_cache.specs.Answers.{give_back, give_fault}
use Rattle.private_cache.specs.CacheParts.{CacheParts}
use Rattle.private_cache.specs.Steps.{line_at, used, without, has_room, fill_line, with_left, least_recently_used}
use Rattle.private_cache.specs.Table.{Hit, filled, left, recalled}
use Rattle.private_cache.specs.declared.held.Held.{Held}
use Rattle.private_cache.specs.declared.held.Held.TheVariants.{Shared, Exclusive}
use Rattle.manager_slice.specs.Changes.{slice_of, spilled}
use Rattle.manager_slice.specs.Messages.{is_request}
use Rattle.manager_slice.specs.Outcome as slice
use Rattle.manager_slice.specs.Parts.{SliceParts}
use Rattle.manager_slice.specs.declared.fault.SliceFault.TheVariants as slice_fault
use Rattle.manager_slice.specs.declared.managed.HistoryEntry.TheVariants.{Evicted}
use Rattle.manager_slice.specs.declared.managed.ManagedLine.{ManagedLine}
use Rattle.manager_slice.specs.declared.managed.ManagedLine.TheVariants as managed
use Rattle.manager_slice.proofs.Refused.{only_owners, step_passes}
use Rattle.core_unit.specs.Core.{next_of, op_addr, has_place, fits, tries}
use Rattle.core_unit.specs.Outcomes as unit
use Rattle.core_unit.specs.Parts.{UnitParts, core_of}
use Rattle.core_unit.specs.declared.entry.CoreEntry.{CoreEntry}
use Rattle.core_unit.specs.declared.entry.CoreEntry.TheVariants.{Got}
use Rattle.core_unit.specs.declared.fault.UnitFault.{UnitFault}
use Rattle.core_unit.specs.declared.fault.UnitFault.TheVariants as unit_fault
use Rattle.core_unit.specs.declared.outcome.Outcome.{Outcome}
use Rattle.core_unit.specs.declared.outcome.Outcome.TheVariants.{Sent, Gave, Took, Busy as IsBusy}
use Rattle.core_machine.specs.Machine.{slice_number}
use Rattle.core_machine.specs.Parts.{CoreParts, world, IsPlaced, IsMachine, HaveRoom, programs_of}
use Rattle.core_machine.specs.SeatParts.{SeatParts}
use Rattle.core_machine.specs.Seats.{SeatOutcome, SeatOutcomeLeads, asked_by, seat_outcome, seen}
use Rattle.core_machine.specs.Seats as seat
use Rattle.core_machine.specs.Steps.{StepOutcome, Refuses, Answers, Steps, with_seat, core_outcome, seated, at_slice, served_outcome, serve_outcome, spilled_outcome, alone, step_outcome}
use Rattle.core_machine.specs.Runs.{MayRefuse, IsRefusedAt, behind, run_from}
use Rattle.core_machine.specs.declared.event.Event.{Event}
use Rattle.core_machine.specs.declared.event.Event.TheVariants as event
use Rattle.core_machine.specs.declared.fault.CoreFault.{CoreFault}
use Rattle.core_machine.specs.Opening.{opening_parts}
use Rattle.core_machine.proofs.Opened.{opening_kept}
use Rattle.core_machine.proofs.Alone.{kept_machine}
use Rattle.core_machine.proofs.Placed.{found_in_set, found_in_map}
use Rattle.core_machine.proofs.Serving.{asked_facts, kept_slices}
use Rattle.machine_laws.specs.Hands.{ReplyFits, no_message, unserved, busy, taken, fills, RepliesFit}
use Rattle.machine_laws.specs.Refusals.{is_protocol_fault}
use Rattle.machine_laws.proofs.Moves.{bool_cases}
use Rattle.machine_laws.proofs.Keeping.{Keeps}
use Rattle.machine_laws.proofs.Replies.{reached_ready, owner_gives}

-- the unit is another state of the same one
record IsSame (p q : UnitParts) : Type 0 where
  core : q.core ≡ p.core
  program : q.program ≡ p.program
  config : q.config ≡ p.config
  capacity : q.cache.capacity ≡ p.cache.capacity

abbrev is_bad_reply : UnitFault → Bool
is_bad_reply unit_fault.BadReply = true
is_bad_reply unit_fault.TranscriptFull = false
is_bad_reply (unit_fault.Stamp fault) = false
is_bad_reply unit_fault.OutOfMemory = false

same : (p : UnitParts) → IsSame p p
same p = record { core = refl; program = refl; config = refl; capacity = refl }

left_capacity : (c : CacheParts) (a : ℕ) (h : Option Held) → (with_left c a h).capacity ≡ c.capacity
left_capacity c a None = refl
left_capacity c a (Some h) = refl

no_taken : (m : Message) → fits m Taken ≡ false
no_taken (ShReq a copy pts) = refl
no_taken (ExReq a copy) = refl
no_taken (WbRep a l) = refl
no_taken (FlushRep a l) = refl

no_busy : (m : Message) (x : Recall) → fits m (Busy x) ≡ false
no_busy (ShReq a copy pts) x = refl
no_busy (ExReq a copy) x = refl
no_busy (WbRep a l) x = refl
no_busy (FlushRep a l) x = refl

-- the place that a core has is the room of its cache
fills_line : (g : ConfigParts) (p : UnitParts) (kept : Option Reply) (a : ℕ) (x : Reply) (held : Held) → p.cache.capacity ≡ g.cache_lines → has_place g (core_of p kept) a ≡ true → filled (map.get p.cache.lines a) x ≡ Some held
    → fill_line p.cache a x ≡ Some held
fills_line g p kept a x held room place fill = rw (subst (λ (n : ℕ). (nat_lt (map.len p.cache.lines) n || is_some (map.get p.cache.lines a)) ≡ true) (sym room) place) fill

some_reply : (x y : Reply) → Some x ≡ Some y → x ≡ y
some_reply x y e = cc

-- a machine of this configuration: each core and slice is at its number, and each cache has its room
record IsBuilt (g : ConfigParts) (p : CoreParts) : Type 0 where
  config : p.config ≡ g
  placed : IsPlaced p
  room : HaveRoom p

built_seat : (g : ConfigParts) (p : CoreParts) (c : ℕ) (s t : SeatParts) → IsBuilt g p → slice_get p.seats c ≡ Some s → IsSame s.unit t.unit → IsBuilt g (with_seat p c t)
built_seat g p c s t b there same = record {
  config = b.config;
  placed = kept_machine p c b.placed s there t (record { core = same.core; program = same.program; config = same.config });
  room = λ d x found. elim (found_in_set p.seats c t d x found) [
    | inl new ↦ ap (λ (y : SeatParts). y.unit.cache.capacity) new.1 ∙ same.capacity ∙ b.room c s there
    | inr old ↦ b.room d x old
  ];
}

-- the reply is kept beside the unit as it is
built_kept : (g : ConfigParts) (p : CoreParts) (c : ℕ) (s : SeatParts) (x : Reply) → IsBuilt g p → slice_get p.seats c ≡ Some s → IsBuilt g (with_seat p c (record s { kept = Some x }))
built_kept g p c s x b there = built_seat g p c s (record s { kept = Some x }) b there (same s.unit)

built_slice : (g : ConfigParts) (p : CoreParts) (n : ℕ) (s t : SliceParts) → IsBuilt g p → slice_get p.slices n ≡ Some s → t.number ≡ s.number → t.config ≡ s.config → IsBuilt g (record p { slices = slice_set p.slices n t })
built_slice g p n s t b there number config = record { config = b.config; placed = kept_slices p b.placed n s there t number config; room = b.room }

-- the core whose give-back is in hand is the owner in the slice's list
owner_in_list : (p : CoreParts) (c : ℕ) (seat : SeatParts) (kind : RecallKind) (a : ℕ) (l : Line) (s : SliceParts) → Keeps p.config (world p) → slice_get p.seats c ≡ Some seat → seat.unit.hand ≡ Some (give_back kind a l) → seat.kept ≡ None
    → slice_get p.slices (slice_number p.config a) ≡ Some s → lookup (nat_eq a) s.state.lines ≡ Some (managed.Exclusive c)
owner_in_list p c seat kind a l s k there hand kept at =
    sym (get-lookup s.state.lines a)
    ∙ owner_gives p.config (world p) k c (seen seat) kind a l (slice_of s.state) (found_in_map seen p.seats c seat there) hand kept (found_in_map (λ (x : SliceParts). slice_of x.state) p.slices (slice_number p.config a) s at)

-- so the slice doesn't refuse what is in hand with 11
owner_served : (p : CoreParts) (c : ℕ) (seat : SeatParts) (m : Message) (s : SliceParts) → Keeps p.config (world p) → slice_get p.seats c ≡ Some seat → seat.unit.hand ≡ Some m → seat.kept ≡ None → slice_get p.slices (slice_number p.config (addr_of m)) ≡ Some s
    → slice.handle_outcome s c m ≡ slice.Refuses slice_fault.NotOwner → ⊥
owner_served p c seat (ShReq a copy pts) s k there hand kept at h = let z = ((only_owners s c (ShReq a copy pts)).0 h).0 in absurd (cc)
owner_served p c seat (ExReq a copy) s k there hand kept at h = let z = ((only_owners s c (ExReq a copy)).0 h).0 in absurd (cc)
owner_served p c seat (WbRep a l) s k there hand kept at h = ((only_owners s c (WbRep a l)).0 h).1 (owner_in_list p c seat WriteBack a l s k there hand kept at)
owner_served p c seat (FlushRep a l) s k there hand kept at h = ((only_owners s c (FlushRep a l)).0 h).1 (owner_in_list p c seat Flush a l s k there hand kept at)

evict_passes : (s : SliceParts) (a : ℕ) (o : Option ManagedLine) → slice.line_outcome s a o ≡ slice.Refuses slice_fault.NotOwner → ⊥
evict_passes s a None h = cc
evict_passes s a (Some (managed.Exclusive owner)) h = cc
evict_passes s a (Some (managed.Shared l)) h = step_passes s true (Evicted a ∷ []) (spilled s.state a l) h

-- ---- what an event comes to
-- `told` says whether refusals are told of; else only that an event leaves the machine built as it was, whatever came before.

module _ (told : Bool) where
  -- ---- a core's calls

  -- not refused as a bad reply, where that is told, and the unit stays the same one
  abbrev Fine : UnitParts → unit.UnitOutcome → Type 0
  Fine p (unit.Refuses fault) = told ≡ true → is_bad_reply fault ≡ false
  Fine p (unit.Answers o q) = IsSame p q
  Fine p (unit.Steps o q) = IsSame p q

  recorded_fine : (p : UnitParts) (e : CoreEntry) (fault : Option StampFault) (o : Outcome) (q : UnitParts) → IsSame p q → Fine p (unit.recorded p e fault o q)
  recorded_fine p e fault o q s = go (nat_lt (length p.transcript) 1048576) fault
    where
      go : (b : Bool) (fault : Option StampFault) → Fine p (if b then unit.unless_faulty fault (unit.Steps o (record q { transcript = p.transcript ++ e ∷ [] })) else unit.Refuses unit_fault.TranscriptFull)
      go true None = record { core = s.core; program = s.program; config = s.config; capacity = s.capacity }
      go true (Some f) = λ _. refl
      go false fault = λ _. refl

  eviction_fine : (p : UnitParts) (tells : Message → Outcome) (a : ℕ) (held : Option Held) → Fine p (unit.eviction p tells a held)
  eviction_fine p tells a None = same p
  eviction_fine p tells a (Some (Shared l)) = recorded_fine p _ None _ (record p { cache = without p.cache a }) (record { core = refl; program = refl; config = refl; capacity = refl })
  eviction_fine p tells a (Some (Exclusive m l)) = recorded_fine p _ None _ (record p { cache = without p.cache a; hand = Some (FlushRep a l) }) (record { core = refl; program = refl; config = refl; capacity = refl })

  op_fine : (p : UnitParts) (x : Op) (hit : Option Hit) → Fine p (unit.op_outcome p x hit)
  op_fine p x (Some hit) = recorded_fine p _ (unit.perform_fault p x hit) _ (unit.performed p x hit) (record { core = refl; program = refl; config = refl; capacity = refl })
  op_fine p x None = go (has_room p.cache (op_addr x)) (least_recently_used p.cache)
    where
      go : (b : Bool) (oldest : Option ℕ) → Fine p (unit.miss_outcome p x b oldest)
      go true oldest = record { core = refl; program = refl; config = refl; capacity = refl }
      go false None = same p
      go false (Some victim) = eviction_fine p (λ m. Sent m) victim (line_at p.cache victim)

  next_fine : (p : UnitParts) (o : Option Op) → Fine p (unit.next_outcome p o)
  next_fine p None = same p
  next_fine p (Some x) = op_fine p x (tries p.core (core_of p None) x)

  barred_fine : (p : UnitParts) (hand : Option Message) (o : unit.UnitOutcome) → Fine p o → Fine p (unit.unless_barred p hand o)
  barred_fine p None o f = f
  barred_fine p (Some m) o f = same p

  give_fine : (p : UnitParts) (x : Recall) (given : Option Line) → Fine p (unit.give_outcome p x given)
  give_fine p x None = same p
  give_fine p x (Some l) =
      let m : Message = give_back x.kind x.addr l in
      recorded_fine p _ (give_fault (Some l)) _ (record p { cache = with_left p.cache x.addr (left x.kind l); hand = Some m })
      (record { core = refl; program = refl; config = refl; capacity = left_capacity p.cache x.addr (left x.kind l) })

  -- ---- a reply

  -- a reply that fits fills its line
  reply_fine : (p : UnitParts) (m : Message) (x : Reply) (held : Held) → fits m x ≡ true → fill_line p.cache (addr_of m) x ≡ Some held → Fine p (unit.reply_outcome p m x)
  reply_fine p m (ShRep l) held f e = rw (f, e) (recorded_fine p _ None _ (record (unit.without_hand p) { cache = used p.cache (addr_of m) held }) (record { core = refl; program = refl; config = refl; capacity = refl }))
  reply_fine p m (ExRep l) held f e = rw (f, e) (recorded_fine p _ None _ (record (unit.without_hand p) { cache = used p.cache (addr_of m) held }) (record { core = refl; program = refl; config = refl; capacity = refl }))
  reply_fine p m (RenewRep t) held f e = rw (f, e) (recorded_fine p _ None _ (record (unit.without_hand p) { cache = used p.cache (addr_of m) held }) (record { core = refl; program = refl; config = refl; capacity = refl }))
  reply_fine p m (UpgradeRep t) held f e = rw (f, e) (recorded_fine p _ None _ (record (unit.without_hand p) { cache = used p.cache (addr_of m) held }) (record { core = refl; program = refl; config = refl; capacity = refl }))
  reply_fine p m Taken held f e = absurd (let n = no_taken m in cc)
  reply_fine p m (Busy y) held f e = absurd (let n = no_busy m y in cc)

  busy_fine : (p : UnitParts) (m : Message) (x : Recall) → is_request m ≡ true → Fine p (unit.reply_outcome p m (Busy x))
  busy_fine p m x asks = rw asks (record { core = refl; program = refl; config = refl; capacity = refl })

  taken_fine : (p : UnitParts) (m : Message) → is_request m ≡ false → Fine p (unit.reply_outcome p m Taken)
  taken_fine p m gives_back = rw gives_back (recorded_fine p _ None _ (unit.without_hand p) (record { core = refl; program = refl; config = refl; capacity = refl }))

  -- this reply to this message
  answer_fine : (p : UnitParts) (x y : Reply) (m : Message) → p.hand ≡ Some m → Some x ≡ Some y → Fine p (unit.reply_outcome p m y) → Fine p (unit.take_outcome p x)
  answer_fine p x y m h k f = subst (λ (z : Reply). Fine p (unit.hand_outcome p z p.hand)) (sym (some_reply x y k)) (subst (λ (o : Option Message). Fine p (unit.hand_outcome p y o)) (sym h) f)

  fitting_fine : (g : ConfigParts) (p : UnitParts) (x : Reply) → p.cache.capacity ≡ g.cache_lines → ReplyFits g (core_of p (Some x)) → Fine p (unit.take_outcome p x)
  fitting_fine g p x room (no_message h k) = absurd cc
  fitting_fine g p x room (unserved m h k place) = absurd cc
  fitting_fine g p x room (busy m y h k asks) = answer_fine p x (Busy y) m h k (busy_fine p m y asks)
  fitting_fine g p x room (taken m h k gives_back) = answer_fine p x Taken m h k (taken_fine p m gives_back)
  fitting_fine g p x room (fills m y held h k f place fill) =
      answer_fine p x y m h k (reply_fine p m y held f (fills_line g p (Some x) (addr_of m) y held room place fill))

  -- where it isn't told, any reply to any message
  unasked_fill : (p : UnitParts) (m : Message) (x : Reply) → told ≡ false → (b : Bool) (o : Option Held) → Fine p (if b then unit.fill_outcome p m x o else unit.Refuses unit_fault.BadReply)
  unasked_fill p m x f true None = λ t. absurd cc
  unasked_fill p m x f true (Some held) = recorded_fine p _ None _ (record (unit.without_hand p) { cache = used p.cache (addr_of m) held }) (record { core = refl; program = refl; config = refl; capacity = refl })
  unasked_fill p m x f false o = λ t. absurd cc

  unasked_busy : (p : UnitParts) (x : Recall) → told ≡ false → (b : Bool) → Fine p (if b then unit.Answers (IsBusy x) (unit.without_hand p) else unit.Refuses unit_fault.BadReply)
  unasked_busy p x f true = record { core = refl; program = refl; config = refl; capacity = refl }
  unasked_busy p x f false = λ t. absurd cc

  unasked_taken : (p : UnitParts) (m : Message) → told ≡ false → (b : Bool) → Fine p (if b then unit.Refuses unit_fault.BadReply else unit.recorded p (Got m Taken) None Took (unit.without_hand p))
  unasked_taken p m f true = λ t. absurd cc
  unasked_taken p m f false = recorded_fine p _ None _ (unit.without_hand p) (record { core = refl; program = refl; config = refl; capacity = refl })

  unasked_fine : (p : UnitParts) (x : Reply) → told ≡ false → (hand : Option Message) → Fine p (unit.hand_outcome p x hand)
  unasked_fine p x f None = λ t. absurd cc
  unasked_fine p (ShRep l) f (Some m) = unasked_fill p m (ShRep l) f (fits m (ShRep l)) (fill_line p.cache (addr_of m) (ShRep l))
  unasked_fine p (ExRep l) f (Some m) = unasked_fill p m (ExRep l) f (fits m (ExRep l)) (fill_line p.cache (addr_of m) (ExRep l))
  unasked_fine p (RenewRep t) f (Some m) = unasked_fill p m (RenewRep t) f (fits m (RenewRep t)) (fill_line p.cache (addr_of m) (RenewRep t))
  unasked_fine p (UpgradeRep t) f (Some m) = unasked_fill p m (UpgradeRep t) f (fits m (UpgradeRep t)) (fill_line p.cache (addr_of m) (UpgradeRep t))
  unasked_fine p Taken f (Some m) = unasked_taken p m f (is_request m)
  unasked_fine p (Busy y) f (Some m) = unasked_busy p y f (is_request m)

  take_fine : (g : ConfigParts) (p : UnitParts) (x : Reply) → p.cache.capacity ≡ g.cache_lines → (told ≡ true → ReplyFits g (core_of p (Some x))) → Fine p (unit.take_outcome p x)
  take_fine g p x room r = elim (bool_cases told) [ inl t ↦ fitting_fine g p x room (r t) | inr f ↦ unasked_fine p x f p.hand ]

  -- ---- a seat's events

  abbrev FineSeat : SeatParts → SeatOutcome → Type 0
  FineSeat s (seat.Refuses fault) = told ≡ true → is_bad_reply fault ≡ false
  FineSeat s (seat.Answers o t) = IsSame s.unit t.unit
  FineSeat s (seat.Steps o t) = IsSame s.unit t.unit

  kept_fine : (s : SeatParts) (kept : Option Reply) (o : unit.UnitOutcome) → Fine s.unit o → FineSeat s (seat.with_kept kept o)
  kept_fine s kept (unit.Refuses fault) f = f
  kept_fine s kept (unit.Answers o q) f = f
  kept_fine s kept (unit.Steps o q) f = f

  take_seat : (g : ConfigParts) (s : SeatParts) (kept : Option Reply) → s.unit.cache.capacity ≡ g.cache_lines → (told ≡ true → ReplyFits g (core_of s.unit kept)) → FineSeat s (seat.take_outcome s kept)
  take_seat g s None room r = same s.unit
  take_seat g s (Some x) room r = kept_fine s None (unit.take_outcome s.unit x) (take_fine g s.unit x room r)

  seat_fine : (g : ConfigParts) (e : Event) (s : SeatParts) → s.unit.cache.capacity ≡ g.cache_lines → (told ≡ true → ReplyFits g (seen s)) → FineSeat s (seat_outcome e s)
  seat_fine g (event.Turn c) s room r = kept_fine s s.kept _ (barred_fine s.unit s.unit.hand _ (next_fine s.unit (next_of (core_of s.unit None))))
  seat_fine g (event.Serve c) s room r = same s.unit
  seat_fine g (event.Take c) s room r = take_seat g s s.kept room r
  seat_fine g (event.Recall c x) s room r = kept_fine s s.kept _ (barred_fine s.unit s.unit.hand _ (give_fine s.unit x (recalled x s.unit.config.lease (line_at s.unit.cache x.addr))))
  seat_fine g (event.Evict c a) s room r = kept_fine s s.kept _ (barred_fine s.unit s.unit.hand _ (eviction_fine s.unit (λ m. Gave m) a (line_at s.unit.cache a)))
  seat_fine g (event.Spill a) s room r = same s.unit
  seat_fine g (event.Increment c) s room r = kept_fine s s.kept _ (barred_fine s.unit s.unit.hand _ (recorded_fine s.unit _ _ _ (record s.unit { pts = s.unit.pts + 1; r = 0 }) (record { core = refl; program = refl; config = refl; capacity = refl })))

  -- ---- the machine's events

  -- not refused with 14 or 11, where that is told, and the machine is built as before
  abbrev FineStep : ConfigParts → StepOutcome → Type 0
  FineStep g (Refuses fault) = told ≡ true → is_protocol_fault fault ≡ false
  FineStep g (Answers o q) = IsBuilt g q
  FineStep g (Steps wanting o q) = (is_protocol_fault wanting ≡ false) × IsBuilt g q

  alone_fine : (g : ConfigParts) (p : CoreParts) (c : ℕ) (e : Event) → IsBuilt g p → (told ≡ true → RepliesFit g (world p)) → FineStep g (alone p c e)
  alone_fine g p c e b r = go (slice_get p.seats c) refl
    where
      by_seat : (s : SeatParts) → slice_get p.seats c ≡ Some s → (o : SeatOutcome) → FineSeat s o → FineStep g (core_outcome p c o)
      by_seat s there (seat.Refuses unit_fault.BadReply) f = f
      by_seat s there (seat.Refuses unit_fault.TranscriptFull) f = λ _. refl
      by_seat s there (seat.Refuses (unit_fault.Stamp fault)) f = λ _. refl
      by_seat s there (seat.Refuses unit_fault.OutOfMemory) f = λ _. refl
      by_seat s there (seat.Answers o t) f = built_seat g p c s t b there f
      by_seat s there (seat.Steps o t) f = (refl, built_seat g p c s t b there f)

      go : (o : Option SeatParts) → slice_get p.seats c ≡ o → FineStep g (seated (λ s. core_outcome p c (seat_outcome e s)) p o)
      go None there = b
      go (Some s) there =
          by_seat s there (seat_outcome e s) (seat_fine g e s (b.room c s there ∙ ap (λ (x : ConfigParts). x.cache_lines) b.config) (λ t. r t c (seen s) (found_in_map seen p.seats c s there)))

  -- ---- a message is served

  served_fine : (g : ConfigParts) (p : CoreParts) (c : ℕ) (seat : SeatParts) (n : ℕ) (s : SliceParts) (o : slice.Outcome Reply) → IsBuilt g p → slice_get p.seats c ≡ Some seat → slice_get p.slices n ≡ Some s → (told ≡ true → o ≡ slice.Refuses slice_fault.NotOwner → ⊥)
      → FineStep g (served_outcome p c seat n s o)
  served_fine g p c seat n s (slice.Refuses slice_fault.NotOwner) b there at not = λ t. absurd (not t refl)
  served_fine g p c seat n s (slice.Refuses slice_fault.StampLimit) b there at not = λ _. refl
  served_fine g p c seat n s (slice.Refuses slice_fault.HistoryFull) b there at not = λ _. refl
  served_fine g p c seat n s (slice.Refuses slice_fault.OutOfMemory) b there at not = λ _. refl
  served_fine g p c seat n s (slice.Answers x) b there at not = built_kept g p c seat x b there
  served_fine g p c seat n s (slice.Steps x entries state) b there at not =
      (refl, built_slice g (with_seat p c (record seat { kept = Some x })) n s (record s { state = state; history = s.history ++ entries }) (built_kept g p c seat x b there) at refl refl)

  serve_fine : (p : CoreParts) (c : ℕ) → IsBuilt p.config p → (told ≡ true → Keeps p.config (world p)) → FineStep p.config (step_outcome p (event.Serve c))
  serve_fine p c b k = go (slice_get p.seats c) refl
    where
      at_slice_fine : (seat : SeatParts) (m : Message) → slice_get p.seats c ≡ Some seat → seat.unit.hand ≡ Some m → seat.kept ≡ None → (o : Option SliceParts) → slice_get p.slices (slice_number p.config (addr_of m)) ≡ o
          → FineStep p.config (at_slice (λ s. served_outcome p c seat (slice_number p.config (addr_of m)) s (slice.handle_outcome s c m)) p o)
      at_slice_fine seat m there hand kept None at = b
      at_slice_fine seat m there hand kept (Some s) at =
          served_fine p.config p c seat (slice_number p.config (addr_of m)) s (slice.handle_outcome s c m) b there at (λ t. owner_served p c seat m s (k t) there hand kept at)

      asked_fine : (seat : SeatParts) → slice_get p.seats c ≡ Some seat → (asked : Option Message) → asked_by seat.unit.hand seat.kept ≡ asked → FineStep p.config (serve_outcome p c seat asked)
      asked_fine seat there None e = b
      asked_fine seat there (Some m) e =
          let facts = asked_facts seat.unit.hand seat.kept m e in
          at_slice_fine seat m there facts.0 facts.1 (slice_get p.slices (slice_number p.config (addr_of m))) refl

      go : (o : Option SeatParts) → slice_get p.seats c ≡ o → FineStep p.config (seated (λ s. serve_outcome p c s (asked_by s.unit.hand s.kept)) p o)
      go None there = b
      go (Some seat) there = asked_fine seat there (asked_by seat.unit.hand seat.kept) refl

  -- ---- a spill

  spilled_fine : (g : ConfigParts) (p : CoreParts) (n : ℕ) (s : SliceParts) (o : slice.Outcome Bool) → IsBuilt g p → slice_get p.slices n ≡ Some s → (told ≡ true → o ≡ slice.Refuses slice_fault.NotOwner → ⊥) → FineStep g (spilled_outcome p n s o)
  spilled_fine g p n s (slice.Refuses slice_fault.NotOwner) b at not = λ t. absurd (not t refl)
  spilled_fine g p n s (slice.Refuses slice_fault.StampLimit) b at not = λ _. refl
  spilled_fine g p n s (slice.Refuses slice_fault.HistoryFull) b at not = λ _. refl
  spilled_fine g p n s (slice.Refuses slice_fault.OutOfMemory) b at not = λ _. refl
  spilled_fine g p n s (slice.Answers went) b at not = b
  spilled_fine g p n s (slice.Steps went entries state) b at not = (refl, built_slice g p n s (record s { state = state; history = s.history ++ entries }) b at refl refl)

  spill_fine : (g : ConfigParts) (p : CoreParts) (n a : ℕ) → IsBuilt g p → FineStep g (at_slice (λ s. spilled_outcome p n s (slice.evict_outcome s a)) p (slice_get p.slices n))
  spill_fine g p n a b = go (slice_get p.slices n) refl
    where
      go : (o : Option SliceParts) → slice_get p.slices n ≡ o → FineStep g (at_slice (λ s. spilled_outcome p n s (slice.evict_outcome s a)) p o)
      go None at = b
      go (Some s) at = spilled_fine g p n s (slice.evict_outcome s a) b at (λ t. evict_passes s a (lookup (nat_eq a) s.state.lines))

  -- ---- every event

  step_fine : (p : CoreParts) (e : Event) → IsBuilt p.config p → (told ≡ true → Keeps p.config (world p)) → (told ≡ true → RepliesFit p.config (world p)) → FineStep p.config (step_outcome p e)
  step_fine p (event.Turn c) b k r = alone_fine p.config p c (event.Turn c) b r
  step_fine p (event.Serve c) b k r = serve_fine p c b k
  step_fine p (event.Take c) b k r = alone_fine p.config p c (event.Take c) b r
  step_fine p (event.Recall c x) b k r = alone_fine p.config p c (event.Recall c x) b r
  step_fine p (event.Evict c a) b k r = alone_fine p.config p c (event.Evict c a) b r
  step_fine p (event.Spill a) b k r = spill_fine p.config p (slice_number p.config a) a b
  step_fine p (event.Increment c) b k r = alone_fine p.config p c (event.Increment c) b r

-- ---- the room of a cache

-- an event of a core leaves its cache the room that it has
same_room : (s t : SeatParts) (r : Result Outcome UnitFault) (o : SeatOutcome) → FineSeat false s o → SeatOutcomeLeads o r s t → t.unit.cache.capacity ≡ s.unit.cache.capacity
same_room s t r (seat.Refuses fault) f m = ap (λ (x : SeatParts). x.unit.cache.capacity) m.1
same_room s t r (seat.Answers o q) f m = ap (λ (x : SeatParts). x.unit.cache.capacity) m.1 ∙ f.capacity
same_room s t (Ok o) (seat.Steps wanting q) f m = ap (λ (x : SeatParts). x.unit.cache.capacity) m.1 ∙ f.capacity
same_room s t (Err fault) (seat.Steps wanting q) f m = ap (λ (x : SeatParts). x.unit.cache.capacity) m.1

pub seat_room : (g : ConfigParts) (e : Event) (s t : SeatParts) (r : Result Outcome UnitFault) → SeatOutcomeLeads (seat_outcome e s) r s t → s.unit.cache.capacity ≡ g.cache_lines → t.unit.cache.capacity ≡ g.cache_lines
seat_room g e s t r met room = same_room s t r (seat_outcome e s) (seat_fine false g e s room (λ told. absurd cc)) met ∙ room

-- ---- a machine that some events lead to

refused_fine : (g : ConfigParts) (o : StepOutcome) (fault : CoreFault) → FineStep true g o → MayRefuse o fault → is_protocol_fault fault ≡ false
refused_fine g (Refuses due) fault f m = ap is_protocol_fault m ∙ f refl
refused_fine g (Answers o q) fault f m = absurd m
refused_fine g (Steps wanting o q) fault f m = ap is_protocol_fault m ∙ f.0

built_fault : (p : CoreParts) (e : Event) (fault : CoreFault) → IsBuilt p.config p → Keeps p.config (world p) → RepliesFit p.config (world p) → MayRefuse (step_outcome p e) fault → is_protocol_fault fault ≡ false
built_fault p e fault b k r refused = refused_fine p.config (step_outcome p e) fault (step_fine true p e b (λ _. k) (λ _. r)) refused

pub no_fault : (p : CoreParts) (e : Event) (fault : CoreFault) → IsMachine p → MayRefuse (step_outcome p e) fault → is_protocol_fault fault ≡ false
no_fault p e fault machine refused =
    let fit = reached_ready (programs_of p) p.config (world p) machine.reached in
    built_fault p e fault (record { config = refl; placed = machine.placed; room = machine.room }) fit.0 fit.1 refused

-- ---- lists of events

behind_built : (g : ConfigParts) (o : StepOutcome) (q : CoreParts) → FineStep false g o → behind o ≡ Some q → IsBuilt g q
behind_built g (Refuses fault) q f h = absurd cc
behind_built g (Answers o t) q f h = let one : t ≡ q = cc in subst (IsBuilt g) one f
behind_built g (Steps wanting o t) q f h = let one : t ≡ q = cc in subst (IsBuilt g) one f.1

-- an event leaves the machine built as it was
step_built : (g : ConfigParts) (p : CoreParts) (e : Event) (q : CoreParts) → IsBuilt g p → behind (step_outcome p e) ≡ Some q → IsBuilt g q
step_built g p e q b h = subst (λ (x : ConfigParts). IsBuilt x q) b.config
    (behind_built p.config (step_outcome p e) q (step_fine false p e (record { config = refl; placed = b.placed; room = b.room }) (λ t. absurd cc) (λ t. absurd cc)) h)

run_built : (g : ConfigParts) (p : CoreParts) (events : List Event) (q : CoreParts) → IsBuilt g p → run_from p events ≡ Some q → IsBuilt g q
run_built g p [] q b h = let one : p ≡ q = cc in subst (IsBuilt g) one b
run_built g p (e ∷ events) q b h = go (λ t c. run_built g t events q c) (behind (step_outcome p e)) refl h
  where
    go : ((t : CoreParts) → IsBuilt g t → run_from t events ≡ Some q → IsBuilt g q) → (o : Option CoreParts) → behind (step_outcome p e) ≡ o → option_and_then (λ t. run_from t events) o ≡ Some q → IsBuilt g q
    go later None at f = absurd cc
    go later (Some t) at f = later t (step_built g p e t b at) f

pub no_run_meets_one : (programs : List (List Instruction)) (g : ConfigParts) (events : List Event) (at : ℕ) (fault : CoreFault) → IsRefusedAt programs g events at fault → is_protocol_fault fault ≡ false
no_run_meets_one programs g events at fault r =
    let opened = opening_kept programs g in
    let start : IsBuilt g (opening_parts programs g) = record { config = refl; placed = opened.placed; room = opened.room } in
    let b : IsBuilt g r.machine = run_built g (opening_parts programs g) (take at events) r.machine start r.reached in
    let fit = reached_ready programs g (world r.machine) (take at events, r.run) in
    built_fault r.machine r.event fault (record { config = refl; placed = b.placed; room = b.room })
    (subst (λ (x : ConfigParts). Keeps x (world r.machine)) (sym b.config) fit.0) (subst (λ (x : ConfigParts). RepliesFit x (world r.machine)) (sym b.config) fit.1) r.refused
