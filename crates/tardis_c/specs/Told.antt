-- How an answer of the judge is told in numbers.
use Rattle.std.specs.Prelude.{◌≡◌, ℕ, List, Result, Ok, Err, IsErrOf, All}
use Rattle.log_file.specs.Log.{number}
use Rattle.verdict.specs.declared.answer.Verdict.{Verdict}
use Rattle.verdict.specs.declared.answer.Verdict.TheVariants.{Yes, No}
use Rattle.verdict.specs.declared.judge_fault.JudgeFault.{JudgeFault}
use Rattle.verdict.specs.declared.judge_fault.JudgeFault.TheVariants.{BadConfig, Log, OutOfMemory, Read}
use Rattle.verdict.specs.declared.rule.Rule.{Rule}
use Rattle.verdict.specs.declared.rule.Rule.TheVariants.{CoreOrder, Program, Source, Value}
use Rattle.verdict.specs.Judgement.{IsAnswerTo}
use Rattle.verdict.specs.VerdictOf.{verdict_of}
use Rattle.tardis_c.specs.declared.operations_fault.OperationsFault.{OperationsFault}
use Rattle.tardis_c.specs.declared.operations_fault.OperationsFault.TheVariants as bad
use Rattle.tardis_c.specs.declared.tardis_operation.TardisOperation.{TardisOperation}
use Rattle.tardis_c.specs.Faults.{AreOperations, IsFirstFault}
use Rattle.tardis_c.specs.Operations.{IsOperation, logs_of}
use Rattle.tardis_c.specs.declared.tardis_verdict.TardisVerdict.{TardisVerdict}

abbrev pub rule_number : Rule → ℕ
rule_number CoreOrder = 1
rule_number Program = 2
rule_number Source = 3
rule_number Value = 4

-- the exit status of the command `check`
abbrev pub status_of : Result Verdict JudgeFault → ℕ
status_of (Ok (Yes count)) = 0
status_of (Ok (No fault)) = 1
status_of (Err (Log file line fault)) = 2
status_of (Err (BadConfig count)) = 3
status_of (Err OutOfMemory) = 4
status_of (Err (Read file)) = 4

abbrev pub nothing : TardisVerdict
nothing = record { count = 0; core = 0; index = 0; file = 0; line = 0; rule = 0; number = 0 }

abbrev pub told_of : Result Verdict JudgeFault → TardisVerdict
told_of (Ok (Yes count)) = record nothing { count = count }
told_of (Ok (No fault)) = record nothing { core = fault.id.core; index = fault.id.index; rule = rule_number fault.rule }
told_of (Err (Log file line fault)) = record nothing { file = file; line = line; number = number fault }
told_of (Err (BadConfig count)) = record nothing { number = 6 }
told_of (Err OutOfMemory) = record nothing { number = 10 }
told_of (Err (Read file)) = record nothing { file = file; number = 28 }

-- the status and the numbers tell an answer to these texts, and it isn't a failed read
abbrev pub IsToldTo : List (List ℕ) → ℕ → TardisVerdict → Type 0
IsToldTo texts status told =
    (answer : Result Verdict JudgeFault) × ((file : ℕ) → ¬ IsErrOf answer (Read file)) × IsAnswerTo texts answer × (status ≡ status_of answer)
    × (told ≡ told_of answer)

-- if the ends are refused, which is status 5, nothing is told; if the number of logs is, which is status 3, only number 6 is
abbrev pub IsToldOfEnds : ℕ → TardisVerdict → Type 0
IsToldOfEnds status told = (status ≡ 5 → told ≡ nothing) × (status ≡ 3 → told ≡ record nothing { number = 6 })

-- ---- operations in numbers

-- the verdict on the logs of the operations, or why cores can't have performed them
abbrev pub IsAnswerOf : List (List TardisOperation) → Result Verdict OperationsFault → Type 0
IsAnswerOf parts (Ok verdict) = All (AreOperations IsOperation) parts × (verdict ≡ verdict_of (logs_of parts))
IsAnswerOf parts (Err fault) = IsFirstFault IsOperation parts fault

abbrev pub operations_status : Result Verdict OperationsFault → ℕ
operations_status (Ok verdict) = status_of (Ok verdict)
operations_status (Err bad.OutOfMemory) = 4
operations_status (Err (bad.TooMany core)) = 2
operations_status (Err (bad.OutOfRange core index)) = 2

abbrev pub operations_told : Result Verdict OperationsFault → TardisVerdict
operations_told (Ok verdict) = told_of (Ok verdict)
operations_told (Err bad.OutOfMemory) = record nothing { number = 10 }
operations_told (Err (bad.TooMany core)) = record nothing { core = core; index = 1048576; number = 23 }
operations_told (Err (bad.OutOfRange core index)) = record nothing { core = core; index = index; number = 22 }

-- the status and the numbers tell an answer to these operations
abbrev pub AreToldOf : List (List TardisOperation) → ℕ → TardisVerdict → Type 0
AreToldOf parts status told =
    (answer : Result Verdict OperationsFault) × IsAnswerOf parts answer × (status ≡ operations_status answer) × (told ≡ operations_told answer)
