-- Refusals that no event meets.
use Rattle.std.specs.Prelude.{◌≡◌, ℕ, Bool, true, false, List}
use Rattle.lease_rule.specs.ConfigParts.{ConfigParts}
use Rattle.core_program.specs.declared.instruction.Instruction.{Instruction}
use Rattle.manager_slice.specs.declared.fault.SliceFault.TheVariants as slice_fault
use Rattle.core_unit.specs.declared.fault.UnitFault.TheVariants as unit_fault
use Rattle.core_machine.specs.Parts.{CoreParts, IsMachine}
use Rattle.core_machine.specs.Runs.{IsRefusedAt, MayRefuse}
use Rattle.core_machine.specs.Steps.{step_outcome}
use Rattle.core_machine.specs.declared.event.Event.{Event}
use Rattle.core_machine.specs.declared.fault.CoreFault.{CoreFault}
use Rattle.core_machine.specs.declared.fault.CoreFault.TheVariants.{Unit, Slice}

-- 14 BadReply, if a reply doesn't fit the message in hand; or 11 NotOwner, if a core gives back a line that it doesn't own
abbrev pub is_protocol_fault : CoreFault → Bool
is_protocol_fault (Unit unit_fault.BadReply) = true
is_protocol_fault (Slice slice_fault.NotOwner) = true
is_protocol_fault fault = false

-- no machine that some events lead to refuses an event with such a fault
abbrev pub NoProtocolFault : Type 0
NoProtocolFault =
    (p : CoreParts) (e : Event) (fault : CoreFault) → IsMachine p → MayRefuse (step_outcome p e) fault → is_protocol_fault fault ≡ false

-- no event of any list is refused with such a fault
abbrev pub NoRunMeetsOne : Type 0
NoRunMeetsOne =
    (programs : List (List Instruction)) (g : ConfigParts) (events : List Event) (at : ℕ) (fault : CoreFault) →
    IsRefusedAt programs g events at fault → is_protocol_fault fault ≡ false
