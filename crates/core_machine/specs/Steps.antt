-- The outcome of an event.
use Rattle.std.specs.Prelude.{if◌then◌else◌, ◌≡◌, ◌↔◌, IfOk, OnErr, ℕ, Bool, true, false, List, ◌++◌, Option, Some, None, Result, Ok, Err, MatchResult, slice_get, slice_set}
use Rattle.line_stamps.specs.declared.message.Message.{Message}
use Rattle.line_stamps.specs.declared.message.Reply.{Reply}
use Rattle.line_stamps.specs.Messages.{addr_of}
use Rattle.manager_slice.specs.Outcome as slice
use Rattle.manager_slice.specs.Parts.{SliceParts}
use Rattle.manager_slice.specs.declared.fault.SliceFault.TheVariants as slice_fault
use Rattle.manager_slice.specs.declared.managed.HistoryEntry.{HistoryEntry}
use Rattle.manager_slice.specs.declared.state.SliceState.{SliceState}
use Rattle.core_unit.specs.declared.fault.UnitFault.TheVariants as unit_fault
use Rattle.core_unit.specs.declared.outcome.Outcome.{Outcome}
use Rattle.core_unit.specs.declared.outcome.Outcome.TheVariants.{Served, Spilled, NoEffect}
use Rattle.core_machine.specs.Machine.{Leads, is_barred, slice_number}
use Rattle.core_machine.specs.Parts.{CoreParts, world}
use Rattle.core_machine.specs.SeatParts.{SeatParts}
use Rattle.core_machine.specs.Seats.{SeatOutcome, asked_by, seat_outcome}
use Rattle.core_machine.specs.Seats as seat
use Rattle.core_machine.specs.declared.event.Event.{Event}
use Rattle.core_machine.specs.declared.event.Event.TheVariants as event
use Rattle.core_machine.specs.declared.fault.CoreFault.{CoreFault}
use Rattle.core_machine.specs.declared.fault.CoreFault.TheVariants.{Unit, Slice}

pub data StepOutcome : Type 0 where
  -- a refusal that is due
  Refuses : CoreFault → StepOutcome
  -- an outcome that isn't refused for lack of memory, and the machine after it
  Answers : Outcome → CoreParts → StepOutcome
  -- an outcome that makes an entry, and the machine after it; the fault is the one that says that there was no memory for it
  Steps : CoreFault → Outcome → CoreParts → StepOutcome

-- 10 OutOfMemory, of a core or of a slice
abbrev pub is_memory : CoreFault → Bool
is_memory (Unit unit_fault.OutOfMemory) = true
is_memory (Slice slice_fault.OutOfMemory) = true
is_memory fault = false

-- the event, with this result, led from p to q as the outcome says; a step may be refused only for its own lack of memory
abbrev pub OutcomeLeads : StepOutcome → Result Outcome CoreFault → CoreParts → CoreParts → Type 0
OutcomeLeads (Refuses fault) r p q = (r ≡ Err fault) × (q ≡ p)
OutcomeLeads (Answers o t) r p q = (r ≡ Ok o) × (q ≡ t)
OutcomeLeads (Steps wanting o t) r p q = MatchResult r (λ x. (x ≡ o) × (q ≡ t)) (λ fault. (fault ≡ wanting) × (q ≡ p))

abbrev pub with_seat : CoreParts → ℕ → SeatParts → CoreParts
with_seat p c s = record p { seats = slice_set p.seats c s }

-- core c's seat comes to this; the memory that it wants is the core's
abbrev pub core_outcome : CoreParts → ℕ → SeatOutcome → StepOutcome
core_outcome p c (seat.Refuses fault) = Refuses (Unit fault)
core_outcome p c (seat.Answers o s) = Answers o (with_seat p c s)
core_outcome p c (seat.Steps o s) = Steps (Unit unit_fault.OutOfMemory) o (with_seat p c s)

-- a core that isn't there does nothing
abbrev pub seated : (SeatParts → StepOutcome) → CoreParts → Option SeatParts → StepOutcome
seated comes p None = Answers NoEffect p
seated comes p (Some s) = comes s

-- a slice that isn't there does nothing
abbrev pub at_slice : (SliceParts → StepOutcome) → CoreParts → Option SliceParts → StepOutcome
at_slice comes p None = Answers NoEffect p
at_slice comes p (Some s) = comes s

-- slice n appended these entries to its history and came to this state
abbrev pub with_entries : CoreParts → ℕ → SliceParts → List HistoryEntry → SliceState → CoreParts
with_entries p n s entries state = record p { slices = slice_set p.slices n (record s { state = state; history = s.history ++ entries }) }

-- core c's message comes to this at slice n; the memory that it wants is the slice's
abbrev pub served_outcome : CoreParts → ℕ → SeatParts → ℕ → SliceParts → slice.Outcome Reply → StepOutcome
served_outcome p c seated_at n s (slice.Refuses fault) = Refuses (Slice fault)
served_outcome p c seated_at n s (slice.Answers x) = Answers (Served x) (with_seat p c (record seated_at { kept = Some x }))
served_outcome p c seated_at n s (slice.Steps x entries state) =
    Steps (Slice slice_fault.OutOfMemory) (Served x) (with_entries (with_seat p c (record seated_at { kept = Some x })) n s entries state)

-- a message that has no reply yet is served
abbrev pub serve_outcome : CoreParts → ℕ → SeatParts → Option Message → StepOutcome
serve_outcome p c seated_at None = Answers NoEffect p
serve_outcome p c seated_at (Some m) =
    let n = slice_number p.config (addr_of m) in
    at_slice (λ s. served_outcome p c seated_at n s (slice.handle_outcome s c m)) p (slice_get p.slices n)

-- a line went to memory, or there was none to go
abbrev pub spill_told : Bool → Outcome
spill_told went = if went then Spilled else NoEffect

-- a spill comes to this at slice n; the memory that it wants is the slice's
abbrev pub spilled_outcome : CoreParts → ℕ → SliceParts → slice.Outcome Bool → StepOutcome
spilled_outcome p n s (slice.Refuses fault) = Refuses (Slice fault)
spilled_outcome p n s (slice.Answers went) = Answers (spill_told went) p
spilled_outcome p n s (slice.Steps went entries state) = Steps (Slice slice_fault.OutOfMemory) (spill_told went) (with_entries p n s entries state)

-- an event of core c alone
abbrev pub alone : CoreParts → ℕ → Event → StepOutcome
alone p c e = seated (λ s. core_outcome p c (seat_outcome e s)) p (slice_get p.seats c)

abbrev pub step_outcome : CoreParts → Event → StepOutcome
step_outcome p (event.Turn c) = alone p c (event.Turn c)
step_outcome p (event.Serve c) = seated (λ s. serve_outcome p c s (asked_by s.unit.hand s.kept)) p (slice_get p.seats c)
step_outcome p (event.Take c) = alone p c (event.Take c)
step_outcome p (event.Recall c x) = alone p c (event.Recall c x)
step_outcome p (event.Evict c a) = alone p c (event.Evict c a)
step_outcome p (event.Spill a) =
    let n = slice_number p.config a in
    at_slice (λ s. spilled_outcome p n s (slice.evict_outcome s a)) p (slice_get p.slices n)
step_outcome p (event.Increment c) = alone p c (event.Increment c)

-- the event led from p to q; NoEffect is the answer exactly if the event doesn't apply, and a refused event changes nothing
pub record MachineLeads (e : Event) (p : CoreParts) (r : Result Outcome CoreFault) (q : CoreParts) : Type 0 where
  pub leads : IfOk r (λ o. Leads p.config (world p) e o (world q))
  pub barred : (r ≡ Ok NoEffect) ↔ (is_barred p.config (world p) e ≡ true)
  pub refused : OnErr r (q ≡ p)
  pub config : q.config ≡ p.config
