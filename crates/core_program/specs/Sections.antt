-- Sections at the front of bytes: for each core its line, and then its instructions.
use Rattle.std.specs.Prelude.{◌≡◌, ℕ, ◌+◌, ◌*◌, ◌<◌, ◌≤◌, List, ◌∷◌, ◌++◌, length, map, drop}
use Rattle.std.specs.Global.{Vec}
use Rattle.std.specs.List.{AllByRecursion}
use Rattle.core_program.specs.declared.format.ProgramFormat.{ProgramFormat}
use Rattle.core_program.specs.declared.instruction.Instruction.{Instruction}
use Rattle.core_program.specs.declared.fault.ProgramFault.{ProgramFault}
use Rattle.core_program.specs.declared.fault.ProgramFault.TheVariants.{BadLine, TooLong, SkipPastEnd, OutOfMemory}
use Rattle.core_program.specs.declared.sections.Sections.{Sections}
use Rattle.core_program.specs.Grammar.{core_text, instruction_text, program_lines, sections, FitsIn, EachFits, IsSection}
use Rattle.text_lines.specs.Lines.{text_of}

-- ---- a line

-- the bytes begin with the line of this instruction, which is one of this format, and `rest` comes after it
abbrev pub InstructionInFront : ProgramFormat → Instruction → List ℕ → List ℕ → Type 0
InstructionInFront format instruction bytes rest = FitsIn format instruction × (bytes ≡ instruction_text instruction ++ 10 ∷ rest)

-- the bytes don't begin with the line of an instruction of this format
abbrev pub NoInstructionInFront : ProgramFormat → List ℕ → Type 0
NoInstructionInFront format bytes = (instruction : Instruction) (rest : List ℕ) → InstructionInFront format instruction bytes rest → ⊥

-- nor with the line before the instructions of this core
abbrev pub NoCoreInFront : ℕ → List ℕ → Type 0
NoCoreInFront core bytes = (rest : List ℕ) → bytes ≡ core_text core ++ 10 ∷ rest → ⊥

-- the bytes begin with the lines of 4,097 instructions of this format, one more than a section may have
pub record IsTooMany (format : ProgramFormat) (bytes : List ℕ) : Type 0 where
  pub program : List Instruction
  pub each_fits : EachFits format program
  pub long : length program ≡ 4097
  pub rest : List ℕ
  pub text : bytes ≡ text_of (program_lines program) ++ rest

-- ---- sections one after another

-- the bytes begin with the whole sections of these programs, in this format and for cores 0, 1, .. of `cores`, and `rest` comes after them
pub record SectionsInFront (format : ProgramFormat) (cores : ℕ) (bytes : List ℕ) (programs : List (List Instruction)) (rest : List ℕ) : Type 0 where
  pub within : length programs ≤ cores
  pub each : AllByRecursion (IsSection format) programs
  pub text : bytes ≡ text_of (sections 0 programs) ++ rest
  pub whole : 0 < length programs → NoInstructionInFront format rest

-- the sections that vectors hold
abbrev pub section_lists : List (Vec Instruction) → List (List Instruction)
section_lists sections = map (λ section. section.items) sections

-- all sections of this format that the bytes begin with, at most those of `cores` cores; their first line is line 2 of a text
pub record AreSectionsOf (format : ProgramFormat) (cores : ℕ) (bytes : List ℕ) (found : Sections) : Type 0 where
  pub taken : found.taken ≤ length bytes
  pub in_front : SectionsInFront format cores bytes (section_lists found.programs.items) (drop found.taken bytes)
  pub line : found.line ≡ 2 + length (sections 0 (section_lists found.programs.items))
  pub line_small : found.line ≤ 2 + 64 * 4097
  pub all : length (section_lists found.programs.items) < cores → NoCoreInFront (length (section_lists found.programs.items)) (drop found.taken bytes)

-- line k is the 4,097th instruction of a section
pub record IsSectionTooLong (format : ProgramFormat) (cores : ℕ) (bytes : List ℕ) (k : ℕ) : Type 0 where
  pub before : List (List Instruction)
  pub rest : List ℕ
  pub in_front : SectionsInFront format cores bytes before rest
  pub more : length before < cores
  pub behind : List ℕ
  pub core : rest ≡ core_text (length before) ++ 10 ∷ behind
  pub many : IsTooMany format behind
  pub line : k ≡ 2 + length (sections 0 before) + 1 + 4096

-- why no sections were read
abbrev pub IsSectionsFault : ProgramFormat → ℕ → List ℕ → ProgramFault → Type 0
IsSectionsFault format cores bytes (TooLong k) = IsSectionTooLong format cores bytes k
IsSectionsFault format cores bytes OutOfMemory = Unit {0}
IsSectionsFault format cores bytes (BadLine k) = ⊥
IsSectionsFault format cores bytes (SkipPastEnd k) = ⊥
