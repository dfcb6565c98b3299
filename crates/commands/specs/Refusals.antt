-- What is printed for each refusal, and its exit status.
use Rattle.std.specs.Prelude.{ℕ, List, ◌++◌, codes}
use Rattle.std.specs.Fmt.{decimal}
use Rattle.mem_op.specs.Names.{name_text}
use Rattle.mem_op.specs.declared.fault_name.FaultName.TheVariants as named
use Rattle.core_program.specs.FaultTexts.{fault_text as program_fault_text}
use Rattle.lease_rule.specs.Faults.{fault_text as config_fault_text}
use Rattle.litmus.specs.TestFaultTexts.{fault_text as test_fault_text}
use Rattle.litmus.specs.declared.run_cause.RunCause.{RunCause}
use Rattle.litmus.specs.declared.run_cause.RunCause.TheVariants as cause
use Rattle.litmus.specs.RunFaults.{cause_text, fault_text as table_fault_text}
use Rattle.litmus.specs.declared.run_fault.CollectFault.{CollectFault}
use Rattle.litmus.specs.declared.run_fault.CollectFault.TheVariants as table
use Rattle.machine.specs.Faults.{fault_text as run_fault_text}
use Rattle.merge_judge.specs.declared.merge_fault.MergeFault.{MergeFault}
use Rattle.merge_judge.specs.declared.merge_fault.MergeFault.TheVariants as merge
use Rattle.refutation.specs.FaultTexts.{fault_text as certificate_fault_text}
use Rattle.simulation.specs.ScheduleFaultTexts.{fault_text as schedule_fault_text}
use Rattle.simulation.specs.Faults.{fault_text as simulation_fault_text}
use Rattle.trace.specs.FaultTexts.{fault_text as trace_fault_text}
use Rattle.verdict.specs.Texts.{judge_fault_text}
use Rattle.verdict.specs.declared.judge_fault.JudgeFault.{JudgeFault}
use Rattle.verdict.specs.declared.judge_fault.JudgeFault.TheVariants as judge
use Rattle.commands.specs.declared.place.Input.{Input}
use Rattle.commands.specs.declared.place.Input.TheVariants as input
use Rattle.commands.specs.declared.place.Output.{Output}
use Rattle.commands.specs.declared.place.Output.TheVariants as output
use Rattle.commands.specs.declared.refusal.Refusal.{Refusal}
use Rattle.commands.specs.declared.refusal.Refusal.TheVariants.{Judge, Programs, Schedule, Test, Trace, Certificate, Names, Config, Simulation, Run, Collect, Undecided, Unread, Unwritten, LogUnwritten, OutOfMemory}

-- ---- the faults of the library, as refusals

abbrev pub from_judge : JudgeFault → Refusal
from_judge judge.OutOfMemory = OutOfMemory
from_judge fault = Judge fault

abbrev pub from_merge : MergeFault → Refusal
from_merge (merge.Judge fault) = from_judge fault
from_merge merge.Write = Unwritten output.Standard

-- ---- texts

abbrev pub input_text : Input → List ℕ
input_text input.Programs = codes "programs"
input_text input.Schedule = codes "schedule"
input_text input.Test = codes "litmus"
input_text input.Trace = codes "trace"
input_text input.Certificate = codes "certificate"
input_text input.Names = codes "names"

abbrev pub output_text : Output → List ℕ
output_text output.Standard = codes "output"
output_text output.Picture = codes "picture"
output_text output.Order = codes "order"
output_text output.Refutation = codes "refutation"
output_text output.Statistics = codes "statistics"
output_text output.Events = codes "trace"

-- a No to the logs of a run is printed as a No, and not as a refusal
abbrev pub run_cause_text : ℕ → RunCause → List ℕ
run_cause_text k (cause.No fault) = codes "no: " ++ cause_text k (cause.No fault)
run_cause_text k why = codes "refused: " ++ cause_text k why

abbrev pub collect_fault_text : CollectFault → List ℕ
collect_fault_text (table.Run k why) = run_cause_text k why
collect_fault_text fault = codes "refused: " ++ table_fault_text fault

abbrev pub refusal_text : Refusal → List ℕ
refusal_text (Judge fault) = codes "refused: " ++ judge_fault_text fault
refusal_text (Programs fault) = codes "refused: programs " ++ program_fault_text fault
refusal_text (Schedule fault) = codes "refused: schedule " ++ schedule_fault_text fault
refusal_text (Test fault) = codes "refused: litmus " ++ test_fault_text fault
refusal_text (Trace fault) = codes "refused: trace " ++ trace_fault_text fault
refusal_text (Certificate fault) = codes "refused: certificate " ++ certificate_fault_text fault
refusal_text (Names line) = codes "refused: names line " ++ (decimal line ++ (codes ": " ++ name_text named.BadLine))
refusal_text (Config fault) = codes "refused: " ++ config_fault_text fault
refusal_text (Simulation fault) = codes "refused: " ++ simulation_fault_text fault
refusal_text (Run fault) = codes "refused: " ++ run_fault_text fault.core fault.cause
refusal_text (Collect fault) = collect_fault_text fault
refusal_text Undecided = codes "refused: " ++ name_text named.Undecided
refusal_text (Unread place) = codes "refused: " ++ (input_text place ++ (codes ": " ++ name_text named.Read))
refusal_text (Unwritten place) = codes "refused: " ++ (output_text place ++ (codes ": " ++ name_text named.Write))
refusal_text (LogUnwritten file) = codes "refused: file " ++ (decimal file ++ (codes ": " ++ name_text named.Write))
refusal_text OutOfMemory = codes "refused: " ++ name_text named.OutOfMemory

-- ---- exit statuses

abbrev pub judge_fault_status : JudgeFault → ℕ
judge_fault_status (judge.Log file line fault) = 2
judge_fault_status (judge.BadConfig count) = 3
judge_fault_status (judge.Read file) = 4
judge_fault_status judge.OutOfMemory = 4

abbrev pub run_cause_status : RunCause → ℕ
run_cause_status (cause.No fault) = 1
run_cause_status why = 4

abbrev pub collect_fault_status : CollectFault → ℕ
collect_fault_status table.BadRuns = 3
collect_fault_status (table.Run k why) = run_cause_status why
collect_fault_status table.OutOfMemory = 4

abbrev pub refusal_status : Refusal → ℕ
refusal_status (Judge fault) = judge_fault_status fault
refusal_status (Programs fault) = 2
refusal_status (Schedule fault) = 2
refusal_status (Test fault) = 2
refusal_status (Trace fault) = 2
refusal_status (Certificate fault) = 2
refusal_status (Names line) = 2
refusal_status (Config fault) = 3
refusal_status (Collect fault) = collect_fault_status fault
refusal_status other = 4
