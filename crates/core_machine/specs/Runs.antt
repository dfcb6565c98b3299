-- Runs, event by event, by each event's exact outcome.
use Rattle.std.specs.Prelude.{◌≡◌, ◌⊎◌, ℕ, true, List, [], ◌∷◌, Option, Some, None, option_and_then, slice_get, take}
use Rattle.lease_rule.specs.ConfigParts.{ConfigParts}
use Rattle.core_program.specs.declared.instruction.Instruction.{Instruction}
use Rattle.core_machine.specs.Machine.{Run, opening}
use Rattle.core_machine.specs.Opening.{opening_parts}
use Rattle.core_machine.specs.Parts.{CoreParts, world}
use Rattle.core_machine.specs.Steps.{StepOutcome, Refuses, Answers, Steps, is_memory, step_outcome}
use Rattle.core_machine.specs.declared.event.Event.{Event}
use Rattle.core_machine.specs.declared.fault.CoreFault.{CoreFault}

-- the machine after an event, or None if a refusal is due
abbrev pub behind : StepOutcome → Option CoreParts
behind (Refuses fault) = None
behind (Answers o q) = Some q
behind (Steps wanting o q) = Some q

-- the machine after these events, or None if the refusal of one of them is due
abbrev pub run_from : CoreParts → List Event → Option CoreParts
run_from p [] = Some p
run_from p (e ∷ events) = option_and_then (λ q. run_from q events) (behind (step_outcome p e))

-- an event with this outcome may be refused with this fault: the one that is due, or the step's own lack of memory
abbrev pub MayRefuse : StepOutcome → CoreFault → Type 0
MayRefuse (Refuses due) fault = fault ≡ due
MayRefuse (Answers o q) fault = ⊥
MayRefuse (Steps wanting o q) fault = fault ≡ wanting

-- the events before event `at` are a run, and that event is refused in the state to which they lead
pub record IsRefusedAt (programs : List (List Instruction)) (g : ConfigParts) (events : List Event) (at : ℕ) (fault : CoreFault) : Type 0 where
  pub machine : CoreParts
  pub reached : run_from (opening_parts programs g) (take at events) ≡ Some machine
  pub run : Run g (opening programs g.slices) (take at events) (world machine)
  pub event : Event
  pub stands : slice_get events at ≡ Some event
  pub refused : MayRefuse (step_outcome machine event) fault
