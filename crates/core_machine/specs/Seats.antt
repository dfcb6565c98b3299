-- What an event of a core comes to at its seat.
use Rattle.std.specs.Prelude.{◌≡◌, ◌≢◌, true, Option, Some, None, Result, Ok, Err, MatchResult}
use Rattle.line_stamps.specs.declared.message.Message.{Message}
use Rattle.line_stamps.specs.declared.message.Reply.{Reply}
use Rattle.core_unit.specs.Core.{Core}
use Rattle.core_unit.specs.Outcomes as unit
use Rattle.core_unit.specs.Parts.{core_of}
use Rattle.core_unit.specs.declared.fault.UnitFault.{UnitFault}
use Rattle.core_unit.specs.declared.fault.UnitFault.TheVariants.{OutOfMemory}
use Rattle.core_unit.specs.declared.outcome.Outcome.{Outcome}
use Rattle.core_unit.specs.declared.outcome.Outcome.TheVariants.{NoEffect}
use Rattle.core_machine.specs.Machine.{CoreLeads, bars}
use Rattle.core_machine.specs.SeatParts.{SeatParts}
use Rattle.core_machine.specs.declared.event.Event.{Event}
use Rattle.core_machine.specs.declared.event.Event.TheVariants as event

pub data SeatOutcome : Type 0 where
  -- a refusal that is due
  Refuses : UnitFault → SeatOutcome
  -- an outcome that isn't refused for lack of memory, and the seat after it
  Answers : Outcome → SeatParts → SeatOutcome
  -- an outcome that makes an entry, and the seat after it
  Steps : Outcome → SeatParts → SeatOutcome

-- the event, with this result, led from s to t as the outcome says; a step may be refused only for lack of memory
abbrev pub SeatOutcomeLeads : SeatOutcome → Result Outcome UnitFault → SeatParts → SeatParts → Type 0
SeatOutcomeLeads (Refuses fault) r s t = (r ≡ Err fault) × (t ≡ s)
SeatOutcomeLeads (Answers o q) r s t = (r ≡ Ok o) × (t ≡ q)
SeatOutcomeLeads (Steps o q) r s t = MatchResult r (λ x. (x ≡ o) × (t ≡ q)) (λ fault. (fault ≡ OutOfMemory) × (t ≡ s))

-- the unit comes to this, and then this reply is kept for it
abbrev pub with_kept : Option Reply → unit.UnitOutcome → SeatOutcome
with_kept kept (unit.Refuses fault) = Refuses fault
with_kept kept (unit.Answers o u) = Answers o (record { unit = u; kept = kept })
with_kept kept (unit.Steps o u) = Steps o (record { unit = u; kept = kept })

-- the reply that is kept is taken
abbrev pub take_outcome : SeatParts → Option Reply → SeatOutcome
take_outcome s None = Answers NoEffect s
take_outcome s (Some x) = with_kept None (unit.take_outcome s.unit x)

-- the message in hand, if it has no reply yet
abbrev pub asked_by : Option Message → Option Reply → Option Message
asked_by hand None = hand
asked_by hand (Some x) = None

-- what an event of the core alone comes to
abbrev pub seat_outcome : Event → SeatParts → SeatOutcome
seat_outcome (event.Turn c) s = with_kept s.kept (unit.turn_outcome s.unit)
seat_outcome (event.Take c) s = take_outcome s s.kept
seat_outcome (event.Recall c x) s = with_kept s.kept (unit.recall_outcome s.unit x)
seat_outcome (event.Evict c a) s = with_kept s.kept (unit.evict_outcome s.unit a)
seat_outcome (event.Increment c) s = with_kept s.kept (unit.increment_outcome s.unit)
seat_outcome e s = Answers NoEffect s

-- the seat as the machine sees its core
abbrev pub seen : SeatParts → Core
seen s = core_of s.unit s.kept

-- if the outcome isn't NoEffect, the event leads the core on; NoEffect comes exactly if the event doesn't apply, and changes nothing
pub record SeatLeads (e : Event) (s : SeatParts) (r : Result Outcome UnitFault) (t : SeatParts) : Type 0 where
  pub leads : (o : Outcome) → r ≡ Ok o → o ≢ NoEffect → CoreLeads s.unit.config s.unit.core (seen s) e o (seen t)
  pub barred : r ≡ Ok NoEffect → (bars e (seen s) ≡ true) × (t ≡ s)
  pub bars_it : bars e (seen s) ≡ true → r ≡ Ok NoEffect
