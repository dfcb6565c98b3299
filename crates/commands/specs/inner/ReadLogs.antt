-- The logs of a set that was read, or why there are none.
use Rattle.std.specs.Prelude.{◌≡◌, ◌==◌, ◌≤◌, All, ℕ, List, IsPermutation, Option, filter, length, map}
use Rattle.std.specs.Borrow.{Bor}
use Rattle.command_line.specs.declared.request.Request.{Request}
use Rattle.core_program.specs.declared.instruction.Instruction.{Instruction}
use Rattle.log_record.specs.Entries.{entries}
use Rattle.log_record.specs.declared.record.Entry.{Entry}
use Rattle.log_record.specs.declared.record.Record.{Record}
use Rattle.mem_op.specs.Limits.{operation_limit}
use Rattle.verdict.specs.Bases.{IsExaminationOf}
use Rattle.verdict.specs.declared.basis.Basis.{Basis}
use Rattle.verdict.specs.declared.basis.Examined.{Examined}
use Rattle.commands.specs.LogFiles.{Spelled}
use Rattle.commands.specs.Promises.{logs_read}
use Rattle.commands.specs.declared.refusal.Refusal.{Refusal}
use Rattle.commands.specs.inner.Performing.{IsReadFault}
use Rattle.verdict.specs.declared.basis.Basis.TheVariants.{Logs, Index}

-- a refusal of whichever request reads the logs in these files
abbrev pub AreLogless : (List ℕ → Type 0) → List (Bor (List ℕ)) → Refusal → Type 0
AreLogless unread names refusal = (request : Request) → logs_read request ≡ names → IsReadFault unread request refusal

-- the records of a core, in the order in which they stand
abbrev pub own_log : List Entry → ℕ → List Record
own_log es core = map (λ e. e.logged) (filter (λ e. e.id.core == core) es)

-- the logs as they were read, or each of their records once
abbrev pub HoldsRecords : List (List Record) → Basis → Type 0
HoldsRecords logs (Logs set) = set ≡ logs
HoldsRecords logs (Index index) = IsPermutation (entries logs) index

-- a verdict stands on these logs, of a set of this many cores
pub record AreLogsOf (logs : List (List Record)) (basis : Basis) (cores : ℕ) : Type 0 where
  pub many : length logs ≡ cores
  pub few : cores ≤ 64
  pub short : All (λ log. length log ≤ operation_limit) logs
  pub held : HoldsRecords logs basis

-- the examination of the set that the texts of the files spell
abbrev pub IsExaminationIn : (List ℕ → Option (List ℕ)) → List (Bor (List ℕ)) → Option (List (List Instruction)) → Examined → Type 0
IsExaminationIn told names programs examined = Spelled told names (λ logs. IsExaminationOf programs logs examined × AreLogsOf logs examined.basis (length names))
