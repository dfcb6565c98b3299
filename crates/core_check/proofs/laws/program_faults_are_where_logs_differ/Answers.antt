use Rattle.std.specs.Prelude.{map}
use Rattle.core_program.proofs.Faults.{differs-fault, fault-differs}
use Rattle.log_record.specs.Entries.{operation_of}
use Rattle.core_check.proofs.ProgramFaultFacts.{program_fault_at_place, program_fault_of_log}
use Rattle.core_check.proofs.laws.program_faults_are_where_logs_differ.Goals as goal

pub returns : goal.returns
returns c = λ programs logs id p log program e f. (
  (λ h. fault-differs p (map operation_of log) id.index program (program_fault_at_place programs logs id p log e f h)),
  (λ h. program_fault_of_log programs logs id p log e f (differs-fault p (map operation_of log) id.index h)),
)
