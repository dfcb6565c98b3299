-- How an answer of the judge is printed.
use Rattle.std.specs.Prelude.{◌≡◌, ◌⊎◌, ℕ, List, [], ◌∷◌, ◌++◌, Option, Result, Ok, Err, codes}
use Rattle.std.specs.Io.KnownBytes.{Appends}
use Rattle.log_file.specs.Sinks.{line}
use Rattle.mem_op.specs.Names.{name_text}
use Rattle.mem_op.specs.declared.fault_name.FaultName.TheVariants as named
use Rattle.verdict.specs.Statuses.{judge_fault_status, verdict_status}
use Rattle.verdict.specs.Texts.{judge_fault_text, verdict_text}
use Rattle.verdict.specs.declared.answer.Verdict.{Verdict}
use Rattle.verdict.specs.declared.judge_fault.JudgeFault.{JudgeFault}

-- the line of a refusal, and that where there is no memory for a line
abbrev pub refused_line : JudgeFault → List ℕ
refused_line fault = line (codes "refused: " ++ judge_fault_text fault)

abbrev pub no_memory_line : List ℕ
no_memory_line = line (codes "refused: " ++ name_text named.OutOfMemory)

-- the output took a verdict's line, and the exit status is the verdict's
abbrev pub IsPrinted : Option (List ℕ) → Option (List ℕ) → ℕ → Verdict → Type 0
IsPrinted old new status verdict = Appends old new (line (verdict_text verdict)) × (status ≡ verdict_status verdict)

-- the exit status of an answer that isn't a verdict's: that of the fault, or 4
abbrev pub IsRefusedStatus : {T : Type 0} → ℕ → Result T JudgeFault → Type 0
IsRefusedStatus status (Ok verdict) = status ≡ 4
IsRefusedStatus status (Err fault) = (status ≡ judge_fault_status fault) ⊎ (status ≡ 4)
