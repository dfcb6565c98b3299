-- What the judge answers to the texts of a set of logs.
use Rattle.std.specs.Prelude.{◌≡◌, ◌<◌, ℕ, ◌+◌, List, drop, length, Option, Some, None, Result, Ok, Err, IfOk}
use Rattle.mem_op.specs.Consistency.{IsConsistent}
use Rattle.log_record.specs.declared.record.Record.{Record}
use Rattle.log_record.specs.Entries.{operations_of}
use Rattle.core_program.specs.declared.instruction.Instruction.{Instruction}
use Rattle.log_file.specs.Sets.{SpellSet, SpellBefore, IsFirstOfSet, NoneFailed, ReaderFailed}
use Rattle.verdict.specs.declared.answer.Verdict.{Verdict}
use Rattle.verdict.specs.declared.answer.Verdict.TheVariants.{Yes, No}
use Rattle.verdict.specs.declared.judge_fault.JudgeFault.{JudgeFault}
use Rattle.verdict.specs.declared.judge_fault.JudgeFault.TheVariants.{BadConfig, Log, OutOfMemory, Read}
use Rattle.verdict.specs.FlatMachine.{RunsFlat}
use Rattle.verdict.specs.VerdictOf.{verdict_of, run_verdict_of}

-- the texts spell a set, and this is the verdict on it
abbrev pub IsVerdictBy : (List (List Record) → Verdict) → List (List ℕ) → Verdict → Type 0
IsVerdictBy judged texts verdict =
    (logs : List (List Record)) × SpellSet texts logs × (verdict ≡ judged logs)

-- The verdict on the set that the texts spell, or their first fault. A bad count, lack of memory or a
-- failed read may come instead of either; but a failed read of a file comes only if the texts before
-- it spell their logs.
abbrev pub IsAnswerBy : (List (List Record) → Verdict) → List (List ℕ) → Result Verdict JudgeFault → Type 0
IsAnswerBy judged texts (Ok verdict) = IsVerdictBy judged texts verdict
IsAnswerBy judged texts (Err (Log file line fault)) = IsFirstOfSet texts file line fault
IsAnswerBy judged texts (Err (Read file)) = (file < length texts) × SpellBefore texts file
IsAnswerBy judged texts (Err (BadConfig count)) = Unit {0}
IsAnswerBy judged texts (Err OutOfMemory) = Unit {0}

-- the answer to a set
abbrev pub IsAnswerTo : List (List ℕ) → Result Verdict JudgeFault → Type 0
IsAnswerTo = IsAnswerBy verdict_of

-- the answer to a set whose cores ran these programs
abbrev pub IsRunAnswerTo : List (List Instruction) → List (List ℕ) → Result Verdict JudgeFault → Type 0
IsRunAnswerTo programs = IsAnswerBy (run_verdict_of programs)

-- the answer against programs if they are given, else without them
abbrev pub IsAnswerAgainst : Option (List (List Instruction)) → List (List ℕ) → Result Verdict JudgeFault → Type 0
IsAnswerAgainst None = IsAnswerTo
IsAnswerAgainst (Some programs) = IsRunAnswerTo programs

-- The reading went no further than this file: the texts before it spell their logs, and the readers after it are as they
-- were.
abbrev pub StopsAt : {S : Type 0} → List (List ℕ) → List S → List S → ℕ → Type 0
StopsAt texts old new file = SpellBefore texts file × (drop (file + 1) new ≡ drop (file + 1) old)

-- how far the readers were read before this fault: before a bad count not at all; and lack of memory names no file
abbrev pub IsReadUpTo : {S : Type 0} → List (List ℕ) → List S → List S → JudgeFault → Type 0
IsReadUpTo texts old new (Log file line fault) = StopsAt texts old new file
IsReadUpTo texts old new (Read file) = StopsAt texts old new file
IsReadUpTo texts old new OutOfMemory = (file : ℕ) × StopsAt texts old new file
IsReadUpTo texts old new (BadConfig count) = new ≡ old

-- If the answer is a failed read, the reader of that file failed in this call; else none of the readers did.
abbrev pub TellsFailures : {S T : Type 0} → (S → ℕ) → List S → List S → Result T JudgeFault → Type 0
TellsFailures failed old new (Err (Read file)) = ReaderFailed failed old new file
TellsFailures failed old new (Err (Log file line fault)) = NoneFailed failed old new
TellsFailures failed old new (Err (BadConfig count)) = NoneFailed failed old new
TellsFailures failed old new (Err OutOfMemory) = NoneFailed failed old new
TellsFailures failed old new (Ok x) = NoneFailed failed old new

-- the answer depends on the texts alone: it is a verdict, or the fault of a log
abbrev pub IsOfTexts : Result Verdict JudgeFault → Type 0
IsOfTexts (Ok verdict) = Unit {0}
IsOfTexts (Err (Log file line fault)) = Unit {0}
IsOfTexts (Err (Read file)) = ⊥
IsOfTexts (Err (BadConfig count)) = ⊥
IsOfTexts (Err OutOfMemory) = ⊥

abbrev pub IsYes : Verdict → Type 0
IsYes (Yes count) = Unit {0}
IsYes (No fault) = ⊥

-- this holds if the answer is Yes
abbrev pub OnYes : Result Verdict JudgeFault → Type 0 → Type 0
OnYes answer Holds = IfOk answer (λ verdict. IsYes verdict → Holds)

-- the texts spell a set whose operations are sequentially consistent
abbrev pub SpellConsistentSet : List (List ℕ) → Type 0
SpellConsistentSet texts =
    (logs : List (List Record)) × SpellSet texts logs × IsConsistent (operations_of logs)

-- the texts spell a set whose operations some whole run of the flat machine performs
abbrev pub SpellFlatRun : List (List Instruction) → List (List ℕ) → Type 0
SpellFlatRun programs texts =
    (logs : List (List Record)) × SpellSet texts logs × RunsFlat programs (operations_of logs)

-- the same for the programs, if they are given
abbrev pub SpellFlatRunBy : Option (List (List Instruction)) → List (List ℕ) → Type 0
SpellFlatRunBy None texts = Unit {0}
SpellFlatRunBy (Some programs) texts = SpellFlatRun programs texts
