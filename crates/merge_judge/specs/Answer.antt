-- What a merge answers to the texts of a set of logs, and what it writes.
use Rattle.std.specs.Prelude.{◌≡◌, ℕ, ◌+◌, List, Option, None, Some, Result, Ok, Err, take}
use Rattle.mem_op.specs.declared.id.OpId.{OpId}
use Rattle.mem_op.specs.Consistency.{IsSequentialOrder}
use Rattle.log_record.specs.declared.record.Record.{Record}
use Rattle.log_record.specs.Entries.{operations_of}
use Rattle.log_file.specs.Sets.{NoneFailed, SpellSet}
use Rattle.verdict.specs.declared.answer.Verdict.{Verdict}
use Rattle.verdict.specs.declared.answer.Verdict.TheVariants.{Yes, No}
use Rattle.verdict.specs.declared.judge_fault.JudgeFault.{JudgeFault}
use Rattle.verdict.specs.declared.judge_fault.JudgeFault.TheVariants.{BadConfig, Log, OutOfMemory, Read}
use Rattle.merge_judge.specs.declared.merge_fault.MergeFault.{MergeFault}
use Rattle.merge_judge.specs.declared.merge_fault.MergeFault.TheVariants.{Judge, Write}
use Rattle.merge_judge.specs.OrderText.{LacksEnd, order_text}

-- the answer of the judge, if no write failed
abbrev pub judged : Result Verdict MergeFault → Option (Result Verdict JudgeFault)
judged (Ok verdict) = Some (Ok verdict)
judged (Err (Judge fault)) = Some (Err fault)
judged (Err Write) = None

-- no reader of the first n files failed
abbrev pub NoneFailedOf : {S : Type 0} → ℕ → (S → ℕ) → List S → List S → Type 0
NoneFailedOf n failed old new = NoneFailed failed (take n old) (take n new)

-- Up to which file no reader failed, by the answer (None if a write failed). All files are read at once, so the reader of a file
-- after the one in the answer may have failed too; and memory may be refused after a failed read.
abbrev pub IsQuietUpTo : {S : Type 0} → (S → ℕ) → List S → List S → Option (Result Verdict JudgeFault) → Type 0
IsQuietUpTo failed old new None = NoneFailed failed old new
IsQuietUpTo failed old new (Some (Ok verdict)) = NoneFailed failed old new
IsQuietUpTo failed old new (Some (Err (BadConfig count))) = NoneFailed failed old new
IsQuietUpTo failed old new (Some (Err (Log file line fault))) = NoneFailedOf (file + 1) failed old new
IsQuietUpTo failed old new (Some (Err (Read file))) = NoneFailedOf file failed old new
IsQuietUpTo failed old new (Some (Err OutOfMemory)) = Unit {0}

-- the order text of a sequential order of the set that the texts spell
abbrev pub SpellsOrder : List (List ℕ) → List ℕ → Type 0
SpellsOrder texts written =
    (logs : List (List Record)) × (SpellSet texts logs
    × ((order : List OpId) × IsSequentialOrder (operations_of logs) order × (written ≡ order_text order)))

-- with a Yes the whole order is written, and otherwise no whole `end` line
abbrev pub WritesOrder : List (List ℕ) → Result Verdict MergeFault → List ℕ → Type 0
WritesOrder texts (Ok (Yes count)) written = SpellsOrder texts written
WritesOrder texts (Ok (No fault)) written = LacksEnd written
WritesOrder texts (Err fault) written = LacksEnd written
