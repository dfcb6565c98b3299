-- Why a run is refused, and the text of it.
use Rattle.std.specs.Prelude.{◌≡◌, ◌⊎◌, ℕ, true, List, ◌++◌, codes}
use Rattle.std.specs.Fmt.{decimal}
use Rattle.lease_rule.specs.ConfigParts.{ConfigParts}
use Rattle.core_program.specs.declared.instruction.Instruction.{Instruction}
use Rattle.core_machine.specs.Faults as core
use Rattle.core_machine.specs.Runs.{IsRefusedAt}
use Rattle.core_machine.specs.Steps.{is_memory}
use Rattle.core_machine.specs.declared.event.Event.{Event}
use Rattle.tardis_core.specs.declared.running.RunFault.{RunFault}

-- an event is refused, or there was no memory to begin with
abbrev pub IsRunFault : List (List Instruction) → ConfigParts → List Event → RunFault → Type 0
IsRunFault programs g events r =
    ((r.at ≡ 0) × (is_memory r.fault ≡ true)) ⊎ IsRefusedAt programs g events r.at r.fault

abbrev pub fault_text : RunFault → List ℕ
fault_text r = codes "event " ++ (decimal r.at ++ (codes ": " ++ core.fault_text r.fault))
