-- The texts that say why there is no table.
use Rattle.std.specs.Prelude.{ℕ, List, ◌++◌, codes}
use Rattle.std.specs.Fmt.{decimal}
use Rattle.mem_op.specs.Names.{name_text}
use Rattle.mem_op.specs.declared.fault_name.FaultName.TheVariants as named
use Rattle.machine.specs.Faults as threads
use Rattle.simulation.specs.Faults as simulation
use Rattle.verdict.specs.Texts as verdict
use Rattle.litmus.specs.declared.run_fault.CollectFault.{CollectFault}
use Rattle.litmus.specs.declared.run_fault.CollectFault.TheVariants as fault
use Rattle.litmus.specs.declared.run_cause.RunCause.{RunCause}
use Rattle.litmus.specs.declared.run_cause.RunCause.TheVariants.{Simulation, Threads, No, OutOfMemory}

-- why run k has no outcome that counts
abbrev pub cause_text : ℕ → RunCause → List ℕ
cause_text k (Simulation why) = simulation.fault_text why
cause_text k (Threads why) = threads.fault_text why.core why.cause
cause_text k (No fault) = codes "run " ++ (decimal k ++ (codes ": " ++ verdict.fault_text fault))
cause_text k OutOfMemory = name_text named.OutOfMemory

abbrev pub fault_text : CollectFault → List ℕ
fault_text fault.BadRuns = name_text named.BadConfig ++ codes " runs"
fault_text (fault.Run k cause) = cause_text k cause
fault_text fault.OutOfMemory = name_text named.OutOfMemory
