-- What a run in threads left at a fault.
use Rattle.std.proofs.Common.{◌≡◌, ◌⊎◌, ℕ, List, [], sym, subst}
use Rattle.core_program.specs.declared.instruction.Instruction.{Instruction}
use Rattle.manager_slice.specs.Parts.{SliceParts}
use Rattle.core_unit.specs.Parts.{UnitParts}
use Rattle.audit.specs.Runs.{IsUnitLog, StoppedShort, kept_log}
use Rattle.audit.specs.declared.machine_fault.Cause.{Cause}
use Rattle.audit.specs.declared.machine_fault.Cause.TheVariants.{GaveUp, Stopped}
use Rattle.machine.specs.Runs.{AreSlicesLeft}
use Rattle.audit.specs.declared.threads_fault.ThreadsFault.{ThreadsFault}
use Rattle.commands.specs.Running.{AreLeftShort}

-- what the units and slices of a fault are, told of the fault
pub left_by : (programs : List (List Instruction)) (n : ℕ) (fault : ThreadsFault) (core : ℕ) (cause : Cause) (us vs : List UnitParts) (ss zs : List SliceParts) → fault.core ≡ core → fault.cause ≡ cause → us ≡ vs → ss ≡ zs
    → ((c : ℕ) → IsUnitLog c (kept_log vs c) ⊎ (kept_log vs c ≡ [])) → AreSlicesLeft n cause vs zs
    → (((cause ≡ GaveUp) ⊎ (cause ≡ Stopped)) → StoppedShort programs vs core) → AreLeftShort programs n fault us ss
left_by programs n fault core cause us vs ss zs of_core of_cause same slices_same logs slices short = record {
  logs = subst (λ (ws : List UnitParts). (c : ℕ) → IsUnitLog c (kept_log ws c) ⊎ (kept_log ws c ≡ [])) (sym same) logs;
  slices = rw (of_cause, same, slices_same) slices;
  short = λ told.
      let gave : (cause ≡ GaveUp) ⊎ (cause ≡ Stopped) = subst (λ (x : Cause). (x ≡ GaveUp) ⊎ (x ≡ Stopped)) of_cause told in
      subst (λ (c : ℕ). StoppedShort programs us c) (sym of_core) (subst (λ (ws : List UnitParts). StoppedShort programs ws core) (sym same) (short gave));
}
