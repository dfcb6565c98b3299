-- Why a run of threads isn't accepted.
use Rattle.std.proofs.Common.{◌≡◌, ◌⊎◌, List, Option, Result, Ok, Err, inl, inr, subst}
use Rattle.std.specs.Prelude.{IfErr}
use Rattle.lease_rule.specs.ConfigParts.{ConfigParts}
use Rattle.core_program.specs.declared.instruction.Instruction.{Instruction}
use Rattle.core_unit.specs.Parts.{UnitParts}
use Rattle.manager_slice.specs.Parts.{SliceParts}
use Rattle.audit.specs.Runs.{IsFirstReport, IsRun, IsRunFault, NoneReports, RefusesRun}
use Rattle.audit.specs.declared.fault.AuditFault.{AuditFault}
use Rattle.audit.specs.declared.machine_fault.Cause.{Cause}
use Rattle.audit.specs.declared.machine_fault.Cause.TheVariants.{Audit}
use Rattle.audit.specs.declared.machine_fault.MachineFault.{MachineFault}
use Rattle.audit.specs.declared.machine_fault.RunEnd.{RunEnd}

-- 33 is of what is left
pub refused_so : (programs : List (List Instruction)) (g : ConfigParts) (us : List UnitParts) (ss : List SliceParts) (faults : List (Option Cause)) (r : Result RunEnd MachineFault)
    → IfErr r (λ f. IsFirstReport programs us faults f.core f.cause
    ⊎ (NoneReports programs us faults × RefusesRun programs g us ss f.core f.cause × (¬ IsRun programs g us ss)))
    → IfErr r (λ f. f.units.items ≡ us) → IfErr r (λ f. f.slices.items ≡ ss)
    → IfErr r (λ f. (fault : AuditFault) → f.cause ≡ Audit fault → (f.core ≡ fault.core) × IsRunFault programs g f.units.items f.slices.items fault)
refused_so programs g us ss faults (Ok end) refused left slices = tt
refused_so programs g us ss faults (Err f) (inl first) left slices = λ fault is. absurd (first.reports.may.own fault is)
refused_so programs g us ss faults (Err f) (inr found) left slices = λ fault is.
    let why = subst (λ (c : Cause). RefusesRun programs g us ss f.core c) is found.1 in
    (why.0, rw (left, slices) why.1)
