-- What the commands of a schedule do, one after the other.
use Rattle.std.specs.Prelude.{◌≡◌, ⊤, ℕ, List, [], ◌∷◌, ◌++◌, Some, slice_get, take}
use Rattle.manager_slice.specs.declared.fault.SliceFault.{SliceFault}
use Rattle.core_unit.specs.declared.outcome.Outcome.{Outcome}
use Rattle.simulation.specs.declared.command.Command.{Command}
use Rattle.simulation.specs.declared.command.Command.TheVariants as command
use Rattle.core_machine.specs.Machine.{slice_number}
use Rattle.core_machine.specs.Parts.{CoreParts}
use Rattle.tardis_core.specs.Rounds.{IsCauseOf, IsFinished, IsFinishFault, IsOpFault, IsOpIfLeft, IsRefusedRound, IsRound, EventLeads}
use Rattle.core_machine.specs.Runs.{MayRefuse}
use Rattle.core_machine.specs.Steps.{step_outcome}
use Rattle.core_machine.specs.declared.event.Event.{Event}
use Rattle.core_machine.specs.declared.event.Event.TheVariants as event
use Rattle.core_machine.specs.declared.fault.CoreFault.TheVariants as core_fault
use Rattle.tardis_core.specs.declared.rounds.fault.RoundFault.{RoundFault}
use Rattle.simulation.specs.declared.fault.SimulationFault.{SimulationFault}
use Rattle.simulation.specs.declared.fault.SimulationFault.TheVariants.{Core, Slice}

-- ---- a command

-- the event leads from p to q, with any outcome
abbrev pub EventLeadsAnyhow : CoreParts → Event → CoreParts → Type 0
EventLeadsAnyhow p e q = (o : Outcome) × EventLeads p e o q

-- a recall comes to the owner that it names
abbrev pub IsAtOwner : Event → Type 0
IsAtOwner (event.Recall c x) = x.owner ≡ c
IsAtOwner e = ⊤

-- the command leads from p to q
abbrev pub CommandLeads : CoreParts → Command → CoreParts → Type 0
CommandLeads p (command.Turn c) q = EventLeadsAnyhow p (event.Turn c) q
CommandLeads p (command.Serve c) q = EventLeadsAnyhow p (event.Serve c) q
CommandLeads p (command.Take c) q = EventLeadsAnyhow p (event.Take c) q
CommandLeads p (command.Recall x) q = EventLeadsAnyhow p (event.Recall x.owner x) q
CommandLeads p (command.Evict c a) q = EventLeadsAnyhow p (event.Evict c a) q
CommandLeads p (command.Spill a) q = EventLeadsAnyhow p (event.Spill a) q
CommandLeads p (command.Bump c) q = EventLeadsAnyhow p (event.Increment c) q
CommandLeads p (command.Round c) q = IsRound c p q
CommandLeads p (command.Op c) q = IsOpIfLeft c p q
CommandLeads p (command.Finish c) q = IsFinished c p q

-- ---- a command that is refused

-- the fault is that of a core, and this holds of it
abbrev pub IsOfCore : (RoundFault → Type 0) → SimulationFault → Type 0
IsOfCore IsFault fault = (r : RoundFault) × (fault ≡ Core r) × IsFault r

-- core c's event is refused in p
abbrev pub IsRefusedEvent : CoreParts → Event → ℕ → RoundFault → Type 0
IsRefusedEvent p e c fault = (fault.core ≡ c) × IsCauseOf (step_outcome p e) fault.fault

abbrev pub IsRefusedAt : CoreParts → Event → ℕ → CoreParts → SimulationFault → Type 0
IsRefusedAt p e c q fault = (q ≡ p) × IsOfCore (IsRefusedEvent p e c) fault

-- the spill of address a is refused in p
abbrev pub IsRefusedSpill : CoreParts → ℕ → SimulationFault → Type 0
IsRefusedSpill p a fault =
    (cause : SliceFault) × (fault ≡ Slice (slice_number p.config a) cause) × MayRefuse (step_outcome p (event.Spill a)) (core_fault.Slice cause)

-- the command led from p to q, and there it is refused with this fault
abbrev pub IsRefusedCommand : CoreParts → Command → CoreParts → SimulationFault → Type 0
IsRefusedCommand p (command.Turn c) q fault = IsRefusedAt p (event.Turn c) c q fault
IsRefusedCommand p (command.Serve c) q fault = IsRefusedAt p (event.Serve c) c q fault
IsRefusedCommand p (command.Take c) q fault = IsRefusedAt p (event.Take c) c q fault
IsRefusedCommand p (command.Recall x) q fault = IsRefusedAt p (event.Recall x.owner x) x.owner q fault
IsRefusedCommand p (command.Evict c a) q fault = IsRefusedAt p (event.Evict c a) c q fault
IsRefusedCommand p (command.Spill a) q fault = (q ≡ p) × IsRefusedSpill p a fault
IsRefusedCommand p (command.Bump c) q fault = IsRefusedAt p (event.Increment c) c q fault
IsRefusedCommand p (command.Round c) q fault = IsOfCore (IsRefusedRound c p q) fault
IsRefusedCommand p (command.Op c) q fault = IsOfCore (IsOpFault c p q) fault
IsRefusedCommand p (command.Finish c) q fault = IsOfCore (IsFinishFault c p q) fault

-- ---- commands one after the other

-- the commands lead, one by one, from p to the last state
pub data Follows (p : CoreParts) : List Command → CoreParts → Type 0 where
  no_command : Follows p [] p
  one_more : (commands : List Command) (command : Command) (q t : CoreParts) → Follows p commands q → CommandLeads q command t →
      Follows p (commands ++ command ∷ []) t

-- the commands before one lead from p to where it begins, and it is refused in q
pub record IsUnfollowed (p : CoreParts) (commands : List Command) (q : CoreParts) (fault : SimulationFault) : Type 0 where
  pub at : ℕ
  pub command : Command
  pub stands : slice_get commands at ≡ Some command
  pub between : CoreParts
  pub followed : Follows p (take at commands) between
  pub refused : IsRefusedCommand between command q fault
