-- Laws of the verdict.
use Rattle.std.specs.Prelude.{◌≡◌, ℕ, List, Result}
use Rattle.mem_op.specs.Consistency.{IsConsistent, IsSequentialOrder}
use Rattle.log_record.specs.declared.record.Record.{Record}
use Rattle.log_record.specs.Entries.{operations_of}
use Rattle.core_program.specs.declared.instruction.Instruction.{Instruction}
use Rattle.verdict.specs.declared.answer.Verdict.{Verdict}
use Rattle.verdict.specs.declared.answer.Verdict.TheVariants.{Yes}
use Rattle.verdict.specs.declared.judge_fault.JudgeFault.{JudgeFault}
use Rattle.verdict.specs.ByKey.{ids_by_key}
use Rattle.verdict.specs.Judgement.{IsAnswerBy, IsOfTexts}
use Rattle.verdict.specs.VerdictOf.{verdict_of, run_verdict_of}

-- if a set gets Yes, its ids by key are a sequential order of its operations
abbrev pub KeyOrderIsSequential : Type 0
KeyOrderIsSequential =
    (logs : List (List Record)) (count : ℕ) → verdict_of logs ≡ Yes count →
    IsSequentialOrder (operations_of logs) (ids_by_key logs)

-- a set that gets Yes is sequentially consistent
abbrev pub YesIsConsistent : Type 0
YesIsConsistent =
    (logs : List (List Record)) (count : ℕ) → verdict_of logs ≡ Yes count → IsConsistent (operations_of logs)

-- so is one that gets Yes against programs
abbrev pub RunYesIsConsistent : Type 0
RunYesIsConsistent =
    (programs : List (List Instruction)) (logs : List (List Record)) (count : ℕ) →
    run_verdict_of programs logs ≡ Yes count → IsConsistent (operations_of logs)

-- texts have one answer, however sets are judged: against programs or not
abbrev pub TextsHaveOneAnswer : Type 0
TextsHaveOneAnswer =
    (judged : List (List Record) → Verdict) (texts : List (List ℕ)) (a b : Result Verdict JudgeFault) →
    IsOfTexts a → IsOfTexts b → IsAnswerBy judged texts a → IsAnswerBy judged texts b → a ≡ b
