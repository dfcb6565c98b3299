-- What checking files answers.
use Rattle.std.specs.Prelude.{⊤, ℕ, List, Option, None, Some, Result, Ok}
use Rattle.std.specs.Borrow.{Bor}
use Rattle.command_line.specs.declared.request.Check.{Check}
use Rattle.core_program.specs.Answers.{SpellsSet}
use Rattle.core_program.specs.declared.format.ProgramFormat.{ProgramFormat}
use Rattle.core_program.specs.declared.instruction.Instruction.{Instruction}
use Rattle.log_file.specs.Devices.{Tells}
use Rattle.verdict.specs.FaultParts.{FaultParts}
use Rattle.verdict.specs.Judgement.{IsAnswerAgainst, OnYes, SpellConsistentSet, SpellFlatRun, SpellFlatRunBy}
use Rattle.verdict.specs.declared.answer.Verdict.{Verdict}
use Rattle.verdict.specs.declared.answer.Verdict.TheVariants.{No}
use Rattle.verdict.specs.declared.judge_fault.JudgeFault.{JudgeFault}
use Rattle.commands.specs.LogFiles.{AreTextsOf}

-- ---- the programs

-- the programs that the text of their file spells, if one was given, and else none
abbrev pub AreProgramsOf : (List ℕ → Option (List ℕ)) → Option (Bor (List ℕ)) → Option (List (List Instruction)) → Type 0
AreProgramsOf told None None = ⊤
AreProgramsOf told None (Some programs) = ⊥
AreProgramsOf told (Some name) None = ⊥
AreProgramsOf told (Some name) (Some programs) =
    (text : List ℕ) × Tells (told name.now) text × (format : ProgramFormat) × SpellsSet text (record { format = format; programs = programs })

-- something holds of the programs that were asked for
abbrev pub Against : (List ℕ → Option (List ℕ)) → Option (Bor (List ℕ)) → (Option (List (List Instruction)) → Type 0) → Type 0
Against told name Holds = (programs : Option (List (List Instruction))) × AreProgramsOf told name programs × Holds programs

-- ---- the answer

-- what the judge answers to the texts of the files, and what a Yes says
abbrev pub IsJudged : (List ℕ → Option (List ℕ)) → Option (List (List Instruction)) → Check → Result Verdict JudgeFault → Type 0
IsJudged told programs asked answer =
    (texts : List (List ℕ)) × AreTextsOf told asked.files.items texts × IsAnswerAgainst programs texts answer
    × OnYes answer (SpellConsistentSet texts × SpellFlatRunBy programs texts)

-- the set of the files gets this verdict, against the programs that were asked for
abbrev pub FilesGet : (List ℕ → Option (List ℕ)) → Check → Verdict → Type 0
FilesGet told asked verdict = Against told asked.program (λ programs. IsJudged told programs asked (Ok verdict))

-- it gets a No
abbrev pub FilesGetNo : (List ℕ → Option (List ℕ)) → Check → Type 0
FilesGetNo told asked = (fault : FaultParts) × FilesGet told asked (No fault)

-- ---- what a Yes says

-- the texts of the files spell a set whose operations are sequentially consistent
abbrev pub TextsAreConsistent : (List ℕ → Option (List ℕ)) → List (Bor (List ℕ)) → Type 0
TextsAreConsistent told names = (texts : List (List ℕ)) × AreTextsOf told names texts × SpellConsistentSet texts

abbrev pub FilesAreConsistent : (List ℕ → Option (List ℕ)) → Check → Type 0
FilesAreConsistent told asked = TextsAreConsistent told asked.files.items

-- some whole run of these programs on the flat machine performs just the operations of the set that the texts of the files spell
abbrev pub FilesRunFlatBy : (List ℕ → Option (List ℕ)) → Check → Option (List (List Instruction)) → Type 0
FilesRunFlatBy told asked None = ⊤
FilesRunFlatBy told asked (Some programs) = (texts : List (List ℕ)) × AreTextsOf told asked.files.items texts × SpellFlatRun programs texts

abbrev pub FilesRunFlat : (List ℕ → Option (List ℕ)) → Check → Type 0
FilesRunFlat told asked = Against told asked.program (FilesRunFlatBy told asked)
