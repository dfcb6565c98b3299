-- What the laws of the core machine say of an event that is made.
use Rattle.std.proofs.Common.{◌≡◌, true, false, [], ◌∷◌, ◌++◌, refl, sym, subst}
use Rattle.std.specs.Prelude.{Ok, Err, IfErr, IfOk, OnErr}
use Rattle.core_machine.specs.Machine.{Leads, next}
use Rattle.core_machine.specs.Parts.{CoreParts, world, programs_of, IsMachine, IsReached}
use Rattle.manager_slice.specs.declared.fault.SliceFault.TheVariants as slice_fault
use Rattle.core_unit.specs.declared.fault.UnitFault.TheVariants as unit_fault
use Rattle.core_machine.specs.Steps.{OutcomeLeads, MachineLeads, is_memory, step_outcome}
use Rattle.core_machine.specs.declared.event.Event.{Event}
use Rattle.core_machine.specs.declared.fault.CoreFault.{CoreFault}
use Rattle.core_machine.specs.declared.fault.CoreFault.TheVariants.{Unit, Slice}
use Rattle.core_machine.proofs.Alone.{StepResult}
use Rattle.core_machine.proofs.Reached.{may_refuse}
use Rattle.machine_laws.specs.Laws.{EndedRunsGetYes, GetYes, GetYesBy, HaveEnded, IsReachedFrom, RunsGetYes, logs_of}
use Rattle.machine_laws.specs.Refusals.{NoProtocolFault, is_protocol_fault}

pub yes_before : RunsGetYes → (p : CoreParts) → IsReached p → GetYes (logs_of (world p))
yes_before law p reached = law (programs_of p) p.config (world p) reached

-- events from the start of the programs lead to what an event leaves
reached_after : (e : Event) (p : CoreParts) (r : StepResult) (q : CoreParts) → IsReached p → MachineLeads e p r q → IsReachedFrom (programs_of p) p.config (world q)
reached_after e p r q reached led = by_result r led.leads led.refused
  where
    by_result : (r : StepResult) → IfOk r (λ o. Leads p.config (world p) e o (world q)) → OnErr r (q ≡ p) → IsReachedFrom (programs_of p) p.config (world q)
    by_result (Ok o) leads refused = (reached.0 ++ e ∷ [], next reached.0 e o (world p) (world q) reached.1 leads)
    by_result (Err fault) leads refused = subst (λ (t : CoreParts). IsReachedFrom (programs_of p) p.config (world t)) (sym refused) reached

pub yes_after : RunsGetYes → (e : Event) (p : CoreParts) (r : StepResult) (q : CoreParts) → IsReached p → MachineLeads e p r q → GetYes (logs_of (world q))
yes_after law e p r q reached led = law (programs_of p) p.config (world q) (reached_after e p r q reached led)

pub ended_after : EndedRunsGetYes → (e : Event) (p : CoreParts) (r : StepResult) (q : CoreParts) → IsReached p → MachineLeads e p r q → HaveEnded (world q) → GetYesBy (programs_of p) (logs_of (world q))
ended_after law e p r q reached led ended = law (programs_of p) p.config (world q) (reached_after e p r q reached led) ended

pub passes : NoProtocolFault → (e : Event) (p : CoreParts) (r : StepResult) (q : CoreParts) → IsMachine p → OutcomeLeads (step_outcome p e) r p q
    → IfErr r (λ fault. is_protocol_fault fault ≡ false)
passes law e p (Ok o) q machine met = tt
passes law e p (Err fault) q machine met = law p e fault machine (may_refuse (step_outcome p e) fault p q met)

-- a lack of memory is no such refusal
pub memory_passes : (fault : CoreFault) → is_memory fault ≡ true → is_protocol_fault fault ≡ false
memory_passes (Unit unit_fault.OutOfMemory) memory = refl
memory_passes (Unit unit_fault.BadReply) memory = absurd cc
memory_passes (Unit unit_fault.TranscriptFull) memory = absurd cc
memory_passes (Unit (unit_fault.Stamp fault)) memory = absurd cc
memory_passes (Slice slice_fault.OutOfMemory) memory = refl
memory_passes (Slice slice_fault.NotOwner) memory = absurd cc
memory_passes (Slice slice_fault.StampLimit) memory = absurd cc
memory_passes (Slice slice_fault.HistoryFull) memory = absurd cc
