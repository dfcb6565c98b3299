-- What a verdict is based on.
use Rattle.std.specs.Prelude.{◌≡◌, ℕ, List, Option, None, Some, Result, Ok, Err, IsPermutation}
use Rattle.line_stamps.specs.Least.{least_of}
use Rattle.log_record.specs.declared.record.Record.{Record}
use Rattle.log_record.specs.Entries.{entries}
use Rattle.log_file.specs.Sets.{SpellSet}
use Rattle.core_program.specs.declared.instruction.Instruction.{Instruction}
use Rattle.core_check.specs.declared.fault.RuleFault.{RuleFault}
use Rattle.core_check.specs.FaultOrder.{core_fault_cmp}
use Rattle.address_check.specs.Groups.{AscendsByPlace}
use Rattle.verdict.specs.CoreFaultsOf.{core_faults}
use Rattle.verdict.specs.Judgement.{IsAnswerBy}
use Rattle.verdict.specs.VerdictOf.{verdict_by}
use Rattle.verdict.specs.declared.answer.Verdict.{Verdict}
use Rattle.verdict.specs.declared.basis.Examined.{Examined}
use Rattle.verdict.specs.declared.basis.Basis.{Basis}
use Rattle.verdict.specs.declared.basis.Basis.TheVariants.{Logs, Index}
use Rattle.verdict.specs.declared.judge_fault.JudgeFault.{JudgeFault}

-- if a core has a fault, the logs as they were read; else each of their records once, by address and then by key
abbrev pub IsBasisOf : Option RuleFault → List (List Record) → Basis → Type 0
IsBasisOf (Some fault) logs (Logs set) = set ≡ logs
IsBasisOf (Some fault) logs (Index index) = ⊥
IsBasisOf None logs (Logs set) = ⊥
IsBasisOf None logs (Index index) = IsPermutation (entries logs) index × AscendsByPlace index

-- the verdict on a set, against the programs of its cores if they are given, and what it is based on
pub record IsExaminationOf (programs : Option (List (List Instruction))) (logs : List (List Record)) (examined : Examined) : Type 0 where
  pub verdict : examined.verdict ≡ verdict_by programs logs
  pub basis : IsBasisOf (least_of core_fault_cmp (core_faults programs logs)) logs examined.basis

-- the examination of the set that the texts spell, or why there is none
abbrev pub IsExaminedBy : Option (List (List Instruction)) → List (List ℕ) → Result Examined JudgeFault → Type 0
IsExaminedBy programs texts (Ok examined) = (logs : List (List Record)) × SpellSet texts logs × IsExaminationOf programs logs examined
IsExaminedBy programs texts (Err fault) = IsAnswerBy (verdict_by programs) texts (Err fault)

-- the verdict of an examination, or why there is none
abbrev pub verdict_in : Result Examined JudgeFault → Result Verdict JudgeFault
verdict_in (Ok examined) = Ok examined.verdict
verdict_in (Err fault) = Err fault
