-- All that holds of a merge's answer.
use Rattle.std.specs.Prelude.{◌≡◌, ℕ, Bool, true, false, List, [], Option, Result, IfErr, IfSome}
use Rattle.std.specs.Io.KnownBytes.{Appends}
use Rattle.mem_op.specs.declared.id.OpId.{OpId}
use Rattle.merge_judge.specs.OrderText.{id_line}
use Rattle.log_file.specs.Sets.{ReaderFailed, TellEach}
use Rattle.verdict.specs.declared.answer.Verdict.{Verdict}
use Rattle.verdict.specs.declared.judge_fault.JudgeFault.TheVariants.{Read}
use Rattle.verdict.specs.Counts.{IsBadCount}
use Rattle.verdict.specs.Judgement.{IsAnswerTo}
use Rattle.merge_judge.specs.declared.merge_fault.MergeFault.{MergeFault}
use Rattle.merge_judge.specs.declared.merge_fault.MergeFault.TheVariants.{Judge, Write}
use Rattle.merge_judge.specs.Answer.{IsQuietUpTo, WritesOrder, judged}
use Rattle.merge_judge.specs.Begun.{StopsBefore}

-- the line of an id, or none
abbrev pub line_where : Bool → OpId → List ℕ
line_where true id = id_line id
line_where false id = []

-- the fault isn't a bad count
abbrev pub IsNoCount : MergeFault → Type 0
IsNoCount (Judge fault) = IsBadCount fault → ⊥
IsNoCount Write = Unit {0}

pub record IsMergedBy {S : Type 0} (remaining : S → Option (List ℕ)) (failed : S → ℕ) (old new : Option (List ℕ)) (before after : List S) (result : Result Verdict MergeFault) : Type 0 where
  pub texts : List (List ℕ)
  pub tells : TellEach remaining before texts
  pub answers : IfSome (judged result) (IsAnswerTo texts)
  pub written : List ℕ
  pub appends : Appends old new written
  pub writes : WritesOrder texts result written
  pub stops : StopsBefore texts result written
  pub read : IfErr result (λ fault. (file : ℕ) → fault ≡ Judge (Read file) → ReaderFailed failed before after file)
  pub quiet : IsQuietUpTo failed before after (judged result)
