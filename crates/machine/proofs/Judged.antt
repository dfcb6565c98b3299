-- What the laws of the core machine say of a run of threads that is accepted.
use Rattle.std.proofs.Common.{List, Result, Ok, Err}
use Rattle.std.specs.Prelude.{IfOk}
use Rattle.lease_rule.specs.ConfigParts.{ConfigParts}
use Rattle.core_program.specs.declared.instruction.Instruction.{Instruction}
use Rattle.audit.specs.Runs.{IsRun}
use Rattle.audit.specs.declared.machine_fault.MachineFault.{MachineFault}
use Rattle.audit.specs.declared.machine_fault.RunEnd.{RunEnd}
use Rattle.machine_laws.specs.Laws.{GetYesBy, WholeRunsGetYes, unit_logs}

pub yes_where_run : WholeRunsGetYes → (programs : List (List Instruction)) (g : ConfigParts) (r : Result RunEnd MachineFault)
    → IfOk r (λ end. IsRun programs g end.units.items end.slices.items) → IfOk r (λ end. GetYesBy programs (unit_logs end.units.items))
yes_where_run law programs g (Ok end) run = law programs g end.units.items end.slices.items run
yes_where_run law programs g (Err fault) run = tt
