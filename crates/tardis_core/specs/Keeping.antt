-- The events that a machine keeps.
use Rattle.std.specs.Prelude.{◌≡◌, List, Some}
use Rattle.core_program.specs.declared.instruction.Instruction.{Instruction}
use Rattle.core_machine.specs.Opening.{opening_parts}
use Rattle.core_machine.specs.Parts.{CoreParts}
use Rattle.core_machine.specs.Runs.{run_from}
use Rattle.core_machine.specs.declared.event.Event.{Event}

-- the events, one after the other, lead from the start of the machine's programs to the machine
pub record LeadTo (events : List Event) (p : CoreParts) : Type 0 where
  pub programs : List (List Instruction)
  pub leads : run_from (opening_parts programs p.config) events ≡ Some p
