-- What the verdict on files says, and why there is none.
use Rattle.std.proofs.Common.{◌≡◌, ◌+◌, arith, refl, ℕ, List, [], ◌∷◌, length, Option, None, Some, Err}
use Rattle.std.specs.Borrow.{Bor}
use Rattle.std.proofs.lemmas.Slice.Zip.{AllZip-long}
use Rattle.command_line.specs.declared.request.Check.{Check}
use Rattle.command_line.specs.declared.request.Explain.{Explain}
use Rattle.command_line.specs.declared.request.Request.TheVariants as request
use Rattle.core_check.specs.FaultOrder.{core_fault_cmp}
use Rattle.core_check.specs.declared.fault.RuleFault.{RuleFault}
use Rattle.core_program.specs.declared.instruction.Instruction.{Instruction}
use Rattle.host_files.specs.Files.{Files, IsUnread}
use Rattle.line_stamps.specs.Least.{least_of}
use Rattle.log_file.proofs.Sets.{spelled_short}
use Rattle.log_file.specs.Sets.{SpellFrom, SpellSet}
use Rattle.log_record.specs.declared.record.Record.{Record}
use Rattle.verdict.specs.Bases.{IsBasisOf, IsExaminationOf}
use Rattle.verdict.specs.CoreFaultsOf.{core_faults}
use Rattle.verdict.specs.Counts.{IsBadCount, IsInRange}
use Rattle.verdict.specs.Judgement.{SpellFlatRunBy, TellsFailures}
use Rattle.verdict.specs.Statuses.{verdict_status}
use Rattle.verdict.specs.declared.answer.Verdict.{Verdict}
use Rattle.verdict.specs.declared.answer.Verdict.TheVariants.{Yes, No}
use Rattle.verdict.specs.declared.basis.Basis.{Basis}
use Rattle.verdict.specs.declared.basis.Basis.TheVariants.{Logs, Index}
use Rattle.verdict.specs.declared.basis.Examined.{Examined}
use Rattle.verdict.specs.declared.judge_fault.JudgeFault.{JudgeFault}
use Rattle.verdict.specs.declared.judge_fault.JudgeFault.TheVariants.{BadConfig, Log, Read, OutOfMemory}
use Rattle.commands.proofs.LogFiles.{unread_at}
use Rattle.commands.specs.Checking.{FilesAreConsistent, FilesGet, FilesGetNo, FilesRunFlat, FilesRunFlatBy}
use Rattle.commands.specs.LogFiles.{AreSourcesOf, AreTextsOf}
use Rattle.commands.specs.Refusals.{from_judge}
use Rattle.commands.specs.declared.place.Input.TheVariants as input
use Rattle.commands.specs.declared.refusal.Refusal.{Refusal}
use Rattle.commands.specs.declared.refusal.Refusal.TheVariants.{Judge, Unread}
use Rattle.commands.specs.inner.Performing.{IsReadFault}
use Rattle.commands.specs.inner.ReadLogs.{AreLogsOf, HoldsRecords}

-- ---- what the verdict says

-- after a Yes the set is consistent
pub consistent_files : (told : List ℕ → Option (List ℕ)) (asked : Check) (verdict : Verdict) → FilesGet told asked verdict → verdict_status verdict ≡ 0 → FilesAreConsistent told asked
consistent_files told asked (Yes count) (programs, are, (texts, tell, answers, says)) zero = (texts, tell, (says tt).0)
consistent_files told asked (No fault) gets zero = cc

-- and its operations are those of a run of the programs
pub flat_files : (told : List ℕ → Option (List ℕ)) (asked : Check) (verdict : Verdict) → FilesGet told asked verdict → verdict_status verdict ≡ 0 → FilesRunFlat told asked
flat_files told asked (No fault) gets zero = cc
flat_files told asked (Yes count) (programs, are, (texts, tell, answers, says)) zero = (programs, are, flat_by programs (says tt).1)
  where
    flat_by : (given : Option (List (List Instruction))) → SpellFlatRunBy given texts → FilesRunFlatBy told asked given
    flat_by None runs = tt
    flat_by (Some given) runs = (texts, tell, runs)

pub files_no : (told : List ℕ → Option (List ℕ)) (asked : Check) (verdict : Verdict) → FilesGet told asked verdict → verdict_status verdict ≡ 1 → FilesGetNo told asked
files_no told asked (Yes count) gets one = cc
files_no told asked (No fault) gets one = (fault, gets)

-- ---- the logs on which it stands

pub as_many : (core cores : ℕ) (texts : List (List ℕ)) (logs : List (List Record)) → SpellFrom core cores texts logs → length logs ≡ length texts
as_many core cores [] [] spell = refl
as_many core cores [] (log ∷ logs) spell = absurd spell
as_many core cores (text ∷ texts) [] spell = absurd spell
as_many core cores (text ∷ texts) (log ∷ logs) spell = let rest = as_many (core + 1) cores texts logs spell.1 in omega (arith, rest)

pub logs_examined : (told : List ℕ → Option (List ℕ)) (names : List (Bor (List ℕ))) (programs : Option (List (List Instruction))) (texts : List (List ℕ)) (logs : List (List Record)) (examined : Examined)
    → IsInRange (length names) → AreTextsOf told names texts → SpellSet texts logs → IsExaminationOf programs logs examined → AreLogsOf logs examined.basis (length names)
logs_examined told names programs texts logs examined range tell spell is = record {
  many = (
      let as_texts : length logs ≡ length texts = as_many 0 (length texts) texts logs spell in
      let as_names : length texts ≡ length names = AllZip-long _ _ texts tell in
      omega (arith, as_texts, as_names)
      );
  few = range.1;
  short = spelled_short 0 (length texts) texts logs spell;
  held = held_by (least_of core_fault_cmp (core_faults programs logs)) examined.basis is.basis;
}
  where
    held_by : (o : Option RuleFault) (basis : Basis) → IsBasisOf o logs basis → HoldsRecords logs basis
    held_by (Some fault) (Logs set) of = of
    held_by (Some fault) (Index index) of = absurd of
    held_by None (Logs set) of = absurd of
    held_by None (Index index) of = of.0

-- ---- why there is none

pub counted_fault : (unread : List ℕ → Type 0) (asked : Check) (fault : JudgeFault) → IsBadCount fault → IsReadFault unread (request.Check asked) (from_judge fault)
counted_fault unread asked (BadConfig count) bad = record { unread = tt; of_file = tt }
counted_fault unread asked other bad = absurd bad

pub examined_fault : {S : Type 0} (remaining : S → Option (List ℕ)) (failed : S → ℕ) (old new : Files) (asked : Check) (sources later : List S) (fault : JudgeFault)
    → AreSourcesOf old.told remaining sources asked.files.items → TellsFailures {T = Examined} failed sources later (Err fault)
    → IsReadFault (IsUnread remaining failed old new) (request.Check asked) (from_judge fault)
examined_fault remaining failed old new asked sources later (Read file) are fails =
    record { unread = unread_at remaining failed old new sources later asked.files.items file are fails; of_file = tt }
examined_fault remaining failed old new asked sources later (Log file line fault) are fails = record { unread = tt; of_file = tt }
examined_fault remaining failed old new asked sources later (BadConfig count) are fails = record { unread = tt; of_file = tt }
examined_fault remaining failed old new asked sources later OutOfMemory are fails = record { unread = tt; of_file = tt }

-- an explanation reads the files of its check
pub explained_fault : (unread : List ℕ → Type 0) (asked : Explain) (refusal : Refusal) → IsReadFault unread (request.Check asked.check) refusal
    → IsReadFault unread (request.Explain asked) refusal
explained_fault unread asked (Judge (Read file)) why = record { unread = why.unread; of_file = tt }
explained_fault unread asked (Unread input.Programs) why = record { unread = why.unread; of_file = tt }
explained_fault unread asked (Unread place) why = absurd why.unread
explained_fault unread asked other why = record { unread = tt; of_file = why.of_file }
