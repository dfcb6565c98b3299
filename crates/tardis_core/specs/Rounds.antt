-- Rounds of a core: the events of a round, in their order, and rounds until the core has performed an operation, or all of them.
use Rattle.std.specs.Prelude.{◌≡◌, ℕ, ◌+◌, ◌<◌, ◌≤◌, true, false, List, [], ◌∷◌, ◌++◌, Option, Some, None, Ok}
use Rattle.line_stamps.specs.declared.message.Recall.{Recall}
use Rattle.core_unit.specs.declared.outcome.Outcome.{Outcome}
use Rattle.core_unit.specs.declared.outcome.Outcome.TheVariants.{Performed, Busy, Gave}
use Rattle.core_machine.specs.Machine.{World, Leads, Run, core_event}
use Rattle.core_machine.specs.Parts.{CoreParts, world}
use Rattle.core_machine.specs.Runs.{MayRefuse, run_from}
use Rattle.core_machine.specs.Steps.{StepOutcome, OutcomeLeads, step_outcome}
use Rattle.core_machine.specs.Works.{has_next, log_at}
use Rattle.tardis_core.specs.Hands.{HasPerformed, hand_at}
use Rattle.core_machine.specs.declared.event.Event.{Event}
use Rattle.core_machine.specs.declared.event.Event.TheVariants as event
use Rattle.tardis_core.specs.declared.rounds.fault.RoundCause.{RoundCause}
use Rattle.tardis_core.specs.declared.rounds.fault.RoundCause.TheVariants as cause
use Rattle.tardis_core.specs.declared.rounds.fault.RoundFault.{RoundFault}
use Rattle.tardis_core.specs.declared.rounds.hand.Hand.{Hand}
use Rattle.tardis_core.specs.declared.rounds.hand.Hand.TheVariants as hand
use Rattle.tardis_core.specs.declared.rounds.stages.Told.{Told}
use Rattle.tardis_core.specs.declared.rounds.stages.Told.TheVariants as told

-- ---- events that are made

-- the event leads from p to q with this outcome
pub record EventLeads (p : CoreParts) (e : Event) (o : Outcome) (q : CoreParts) : Type 0 where
  pub met : OutcomeLeads (step_outcome p e) (Ok o) p q
  pub leads : Leads p.config (world p) e o (world q)
  pub config : q.config ≡ p.config

-- what a round looks at in an outcome
abbrev pub told_by : Outcome → Told
told_by (Performed id) = told.Performed
told_by (Busy x) = told.Busy x
told_by (Gave m) = told.Gave
told_by o = told.Other

-- the event leads from p to q, and this is what a round sees of its outcome
pub record EventLeadsTelling (p : CoreParts) (e : Event) (told : Told) (q : CoreParts) : Type 0 where
  pub outcome : Outcome
  pub makes : EventLeads p e outcome q
  pub tells : told ≡ told_by outcome

-- these events lead from p to q, one after the other
pub record IsRun (p : CoreParts) (events : List Event) (q : CoreParts) : Type 0 where
  pub reached : run_from p events ≡ Some q
  pub run : Run p.config (world p) events (world q)
  pub config : q.config ≡ p.config

-- some events do
pub record IsRunTo (p q : CoreParts) : Type 0 where
  pub events : List Event
  pub run : IsRun p events q

-- ---- a round of core c, stage by stage

pub data Stage : Type 0 where
  ToTurn : Stage
  ToServe : Stage
  ToTake : Stage
  -- the request was answered Busy, with this recall
  ToRecall : Recall → Stage
  -- the owner has given its line back
  OwnerToServe : ℕ → Stage
  OwnerToTake : ℕ → Stage
  Over : Stage

-- a turn if no message is in hand, a serve if there is one without its reply, and a take if there is one with its reply
abbrev pub turn_due : ℕ → Hand → Option Event
turn_due c hand.Empty = Some (event.Turn c)
turn_due c _ = None

abbrev pub serve_due : ℕ → Hand → Option Event
serve_due c hand.Asking = Some (event.Serve c)
serve_due c _ = None

abbrev pub take_due : ℕ → Hand → Option Event
take_due c hand.Answered = Some (event.Take c)
take_due c _ = None

-- the event that is due at a stage, if one is
abbrev pub due : ℕ → World → Stage → Option Event
due c w ToTurn = turn_due c (hand_at w c)
due c w ToServe = serve_due c (hand_at w c)
due c w ToTake = take_due c (hand_at w c)
due c w (ToRecall x) = Some (event.Recall x.owner x)
due c w (OwnerToServe owner) = Some (event.Serve owner)
due c w (OwnerToTake owner) = Some (event.Take owner)
due c w Over = None

-- after a Busy the line is recalled from its owner; otherwise the round is over
abbrev pub stage_of : Told → Stage
stage_of (told.Busy x) = ToRecall x
stage_of _ = Over

-- what the owner gives back is served, and it takes the reply; if it gives nothing, the round is over
abbrev pub stage_of_recall : ℕ → Told → Stage
stage_of_recall owner told.Gave = OwnerToServe owner
stage_of_recall owner _ = Over

-- the stage after an event with this outcome
abbrev pub stage_after : Stage → Outcome → Stage
stage_after ToTurn o = ToServe
stage_after ToServe o = ToTake
stage_after ToTake o = stage_of (told_by o)
stage_after (ToRecall x) o = stage_of_recall x.owner (told_by o)
stage_after (OwnerToServe owner) o = OwnerToTake owner
stage_after (OwnerToTake owner) o = Over
stage_after Over o = Over

-- the stage after one at which no event is due
abbrev pub stage_without : Stage → Stage
stage_without ToTurn = ToServe
stage_without ToServe = ToTake
stage_without _ = Over

-- `Part c from p events q to`: a round of core c that stands in p at the stage `from` makes these events, and then stands in q
-- at the stage `to`.
pub data Part (c : ℕ) (from : Stage) (p : CoreParts) : List Event → CoreParts → Stage → Type 0 where
  begins : Part c from p [] p from
  makes : (events : List Event) (q : CoreParts) (stage : Stage) (e : Event) (o : Outcome) (t : CoreParts) → Part c from p events q stage →
      due c (world q) stage ≡ Some e → EventLeads q e o t → Part c from p (events ++ e ∷ []) t (stage_after stage o)
  passes : (events : List Event) (q : CoreParts) (stage : Stage) → Part c from p events q stage →
      due c (world q) stage ≡ None → Part c from p events q (stage_without stage)

-- some events make this part of a round
pub record IsPart (c : ℕ) (from : Stage) (p q : CoreParts) (to : Stage) : Type 0 where
  pub events : List Event
  pub part : Part c from p events q to

-- an event with this outcome may be refused for this cause
abbrev pub IsCauseOf : StepOutcome → RoundCause → Type 0
IsCauseOf outcome cause.GaveUp = ⊥
IsCauseOf outcome (cause.Core fault) = MayRefuse outcome fault

-- a round that stood in p at the stage `from` came to q, and there the event that is due is refused; the fault names the event's core
pub record IsStopped (c : ℕ) (from : Stage) (p q : CoreParts) (fault : RoundFault) : Type 0 where
  pub stage : Stage
  pub so_far : IsPart c from p q stage
  pub event : Event
  pub is_due : due c (world q) stage ≡ Some event
  pub core : core_event event ≡ Some fault.core
  pub cause : IsCauseOf (step_outcome q event) fault.fault

-- a whole round of core c leads from p to q
abbrev pub IsRound : ℕ → CoreParts → CoreParts → Type 0
IsRound c p q = IsPart c ToTurn p q Over

-- a round of core c from p is refused in q
abbrev pub IsRefusedRound : ℕ → CoreParts → CoreParts → RoundFault → Type 0
IsRefusedRound c p q fault = IsStopped c ToTurn p q fault

-- ---- rounds until core c has performed an operation

-- from p to q core c has performed none, and one is left
pub record StillWaits (c : ℕ) (p q : CoreParts) : Type 0 where
  pub next : has_next (world q) c ≡ true
  pub log : log_at (world q) c ≡ log_at (world p) c

-- n rounds of core c lead from p to q; before each of them it still waits
pub data Rounds (c : ℕ) (p : CoreParts) : ℕ → CoreParts → Type 0 where
  no_round : Rounds c p 0 p
  one_more : (n : ℕ) (q t : CoreParts) → Rounds c p n q → StillWaits c p q → IsRound c q t → Rounds c p (n + 1) t

-- core c performs its next operation in at most 1,000 rounds
pub record IsOp (c : ℕ) (p q : CoreParts) : Type 0 where
  pub count : ℕ
  pub limit : count ≤ 1000
  pub rounds : Rounds c p count q
  pub performed : HasPerformed c (world p) (world q)

-- why none was performed: 1,000 rounds weren't enough, or the next round is refused
pub data IsOpFault (c : ℕ) (p q : CoreParts) (fault : RoundFault) : Type 0 where
  gave_up : Rounds c p 1000 q → StillWaits c p q → fault ≡ record { core = c; fault = cause.GaveUp } → IsOpFault c p q fault
  stopped : (count : ℕ) (between : CoreParts) → count < 1000 → Rounds c p count between → StillWaits c p between →
      IsRefusedRound c between q fault → IsOpFault c p q fault

-- core c performs its next operation; if none is left, nothing is done
pub data IsOpIfLeft (c : ℕ) (p q : CoreParts) : Type 0 where
  performs : IsOp c p q → IsOpIfLeft c p q
  none_left : has_next (world p) c ≡ false → q ≡ p → IsOpIfLeft c p q

-- ---- operations until none is left

-- core c performs some operations, one after the other
pub data Ops (c : ℕ) (p : CoreParts) : CoreParts → Type 0 where
  no_op : Ops c p p
  next_op : (q t : CoreParts) → Ops c p q → IsOp c q t → Ops c p t

-- it performs all that are left
pub record IsFinished (c : ℕ) (p q : CoreParts) : Type 0 where
  pub ops : Ops c p q
  pub none_left : has_next (world q) c ≡ false

-- after some operations the next one isn't performed
pub record IsFinishFault (c : ℕ) (p q : CoreParts) (fault : RoundFault) : Type 0 where
  pub between : CoreParts
  pub ops : Ops c p between
  pub is_left : has_next (world between) c ≡ true
  pub fault_of : IsOpFault c between q fault
