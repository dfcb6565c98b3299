-- The exit statuses of a program that judges.
use Rattle.std.specs.Prelude.{ℕ}
use Rattle.verdict.specs.declared.answer.Verdict.{Verdict}
use Rattle.verdict.specs.declared.answer.Verdict.TheVariants.{Yes, No}
use Rattle.verdict.specs.declared.judge_fault.JudgeFault.{JudgeFault}
use Rattle.verdict.specs.declared.judge_fault.JudgeFault.TheVariants.{BadConfig, Log, Read, OutOfMemory}

abbrev pub verdict_status : Verdict → ℕ
verdict_status (Yes count) = 0
verdict_status (No fault) = 1

abbrev pub judge_fault_status : JudgeFault → ℕ
judge_fault_status (Log file line fault) = 2
judge_fault_status (BadConfig count) = 3
judge_fault_status (Read file) = 4
judge_fault_status OutOfMemory = 4
