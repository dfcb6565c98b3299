-- Sections of two kinds: limited in length, or of any length.
use Rattle.std.proofs.Common.{ℕ, List, [], ◌∷◌, arith}
use Rattle.std.specs.List.{AllByRecursion}
use Rattle.core_program.specs.declared.format.ProgramFormat.{ProgramFormat}
use Rattle.core_program.specs.declared.instruction.Instruction.{Instruction}
use Rattle.core_program.specs.Answers.{IsBadLine}
use Rattle.core_program.specs.Grammar.{EachFits, IsSection}
use Rattle.text_lines.specs.Lines.{IsFirstWrong}

pub record IsKind (Section : ProgramFormat → List Instruction → Type 0) : Type 0 where
  pub empty : (format : ProgramFormat) → Section format []
  pub fits : (format : ProgramFormat) (p : List Instruction) → Section format p → EachFits format p
  pub section : (format : ProgramFormat) (p : List Instruction) → IsSection format p → Section format p

pub limited : IsKind IsSection
limited = record { empty = λ format. record { few = omega arith; each_fits = tt }; fits = λ format p section. section.each_fits; section = λ format p section. section }

pub unlimited : IsKind EachFits
unlimited = record { empty = λ format. tt; fits = λ format p each. each; section = λ format p section. section.each_fits }

-- sections of limited length are of each kind
pub each_section : (Section : ProgramFormat → List Instruction → Type 0) → IsKind Section → (format : ProgramFormat) (programs : List (List Instruction))
    → AllByRecursion (IsSection format) programs → AllByRecursion (Section format) programs
each_section Section kind format [] each = tt
each_section Section kind format (program ∷ programs) each = (kind.section format program each.0, each_section Section kind format programs each.1)

-- a line that is the first wrong one for both
pub bad_lines : (Lines : (ProgramFormat → List Instruction → Type 0) → List (List ℕ) → Type 0) (text : List ℕ) (k : ℕ)
    → ((Section : ProgramFormat → List Instruction → Type 0) → IsKind Section → IsFirstWrong (Lines Section) text k) → IsBadLine Lines text k
bad_lines Lines text k wrong = (wrong IsSection limited, (wrong EachFits unlimited).wrong)
