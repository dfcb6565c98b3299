-- What a reader of sections has found. Clauses of private functions cite these.
use Rattle.std.specs.Prelude.{◌≡◌, ℕ, ◌+◌, ◌≤◌, List, ◌∷◌, ◌++◌, length, take, drop}
use Rattle.core_program.specs.declared.fault.ProgramFault.{ProgramFault}
use Rattle.core_program.specs.declared.fault.ProgramFault.TheVariants.{BadLine, TooLong, SkipPastEnd, OutOfMemory}
use Rattle.core_program.specs.declared.format.ProgramFormat.{ProgramFormat}
use Rattle.core_program.specs.declared.section.Section.{Section}
use Rattle.core_program.specs.declared.set_text.Parts.{Parts}
use Rattle.core_program.specs.Answers.{IsBadLine, IsTooLong, SetLines}
use Rattle.core_program.specs.Grammar.{format_number, header_text, program_lines, IsSection}
use Rattle.core_program.specs.SetParts.{SetParts}
use Rattle.core_program.specs.Sections.{IsTooMany, NoInstructionInFront, section_lists}
use Rattle.text_lines.specs.Lines.{text_of}

-- the lines of instructions of this format that the bytes begin with, as many as there are
pub record IsSectionOf (format : ProgramFormat) (bytes : List ℕ) (section : Section) : Type 0 where
  pub is_section : IsSection format section.instructions.items
  pub within : section.taken ≤ length bytes
  pub text : take section.taken bytes ≡ text_of (program_lines section.instructions.items)
  pub all : NoInstructionInFront format (drop section.taken bytes)

-- why no section was read; the first line of the bytes is line `first`
abbrev pub IsSectionFault : ProgramFormat → ℕ → List ℕ → ProgramFault → Type 0
IsSectionFault format first bytes (TooLong k) = (k ≡ first + 4096) × IsTooMany format bytes
IsSectionFault format first bytes OutOfMemory = Unit {0}
IsSectionFault format first bytes (BadLine k) = ⊥
IsSectionFault format first bytes (SkipPastEnd k) = ⊥

-- the bytes begin with the header of this format and number of cores, and these come after it
abbrev pub HeaderInFront : ProgramFormat → ℕ → List ℕ → List ℕ → Type 0
HeaderInFront format cores bytes rest = (1 ≤ cores) × (cores ≤ 64) × (bytes ≡ header_text (format_number format) cores ++ 10 ∷ rest)

-- the set that its lines say
abbrev pub parts_of : Parts → SetParts
parts_of parts = record { format = parts.format; programs = section_lists parts.sections.items }

-- the first line of the bytes that isn't as that of a set, or is missing or too much
abbrev pub IsLineFault : List ℕ → ProgramFault → Type 0
IsLineFault bytes (BadLine k) = IsBadLine SetLines bytes k
IsLineFault bytes (TooLong k) = IsTooLong SetLines bytes k
IsLineFault bytes OutOfMemory = Unit {0}
IsLineFault bytes (SkipPastEnd k) = ⊥
