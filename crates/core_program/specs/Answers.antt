-- The faults of programs and of sets of programs, and what their parsers answer.
use Rattle.std.specs.Prelude.{◌≡◌, ℕ, ◌+◌, ◌≤◌, true, List, length, take, slice_get, Some}
use Rattle.core_program.specs.declared.instruction.Instruction.{Instruction}
use Rattle.core_program.specs.declared.format.ProgramFormat.{ProgramFormat}
use Rattle.core_program.specs.declared.fault.ProgramFault.{ProgramFault}
use Rattle.core_program.specs.declared.fault.ProgramFault.TheVariants.{BadLine, TooLong, SkipPastEnd, OutOfMemory}
use Rattle.core_program.specs.Grammar.{program_lines, sections, set_lines, EachFits, IsSection, IsSetOf}
use Rattle.core_program.specs.SetParts.{SetParts}
use Rattle.core_program.specs.Shape.{is_skip_past_end}
use Rattle.text_lines.specs.Lines.{text_of, BeginsText, IsFirstWrong}

-- ---- lines

-- `Section` says what a section may be in each format: limited in length, or of any length.

-- the lines of a program of this format whose instructions are such a section
abbrev pub ProgramLines : ProgramFormat → (ProgramFormat → List Instruction → Type 0) → List (List ℕ) → Type 0
ProgramLines format Section lines = (program : List Instruction) × (Section format program × (lines ≡ program_lines program))

-- the lines of a set whose programs are such sections in the set's format
abbrev pub SetLines : (ProgramFormat → List Instruction → Type 0) → List (List ℕ) → Type 0
SetLines Section lines = (set : SetParts) × (IsSetOf (Section set.format) set.programs × (lines ≡ set_lines set))

-- Line k is the first that is wrong, and it would be wrong even if sections had no limit.
abbrev pub IsBadLine : ((ProgramFormat → List Instruction → Type 0) → List (List ℕ) → Type 0) → List ℕ → ℕ → Type 0
IsBadLine Lines bytes k = IsFirstWrong (Lines IsSection) bytes k × (BeginsText (Lines EachFits) bytes k → ⊥)

-- Line k is the first that is wrong, but it would be right if sections had no limit: it is the 4,097th instruction
-- of its section.
abbrev pub IsTooLong : ((ProgramFormat → List Instruction → Type 0) → List (List ℕ) → Type 0) → List ℕ → ℕ → Type 0
IsTooLong Lines bytes k = IsFirstWrong (Lines IsSection) bytes k × BeginsText (Lines EachFits) bytes k

-- Which line of a set a line of a core's program is. Before it come the header, the sections of the cores before, the core's own line,
-- and the earlier lines of the program.
abbrev pub line_in_set : List (List Instruction) → ℕ → ℕ → ℕ
line_in_set set core place = 1 + length (sections 0 (take core set)) + 1 + place

-- ---- jumps past the end

-- line k of a program is a jump past its end
pub record SkipsAt (program : List Instruction) (k : ℕ) : Type 0 where
  pub index : ℕ
  pub passes : is_skip_past_end program index ≡ true
  pub line : k ≡ index + 1

-- line k of a set is a jump past the end of its program
pub record SkipsInSetAt (set : List (List Instruction)) (k : ℕ) : Type 0 where
  pub core : ℕ
  pub program : List Instruction
  pub of_core : slice_get set core ≡ Some program
  pub place : ℕ
  pub skips : SkipsAt program place
  pub line : k ≡ line_in_set set core place

-- the least number for which this holds
abbrev pub IsLeast : (ℕ → Type 0) → ℕ → Type 0
IsLeast Holds k = Holds k × ((j : ℕ) → Holds j → k ≤ j)

-- why not all sections of a set are programs: the first jump past the end of its program, or lack of memory
abbrev pub IsJumpFault : List (List Instruction) → ProgramFault → Type 0
IsJumpFault set (SkipPastEnd k) = IsLeast (SkipsInSetAt set) k
IsJumpFault set OutOfMemory = Unit {0}
IsJumpFault set (BadLine k) = ⊥
IsJumpFault set (TooLong k) = ⊥

-- ---- answers

-- the bytes are the text of this program, in this format
abbrev pub SpellsProgram : ProgramFormat → List ℕ → List Instruction → Type 0
SpellsProgram format bytes program = IsSection format program × (bytes ≡ text_of (program_lines program))

-- the bytes are the text of this set, in the format that their first line says
abbrev pub SpellsSet : List ℕ → SetParts → Type 0
SpellsSet bytes set = IsSetOf (IsSection set.format) set.programs × (bytes ≡ text_of (set_lines set))

-- Why bytes aren't the text of anything with such lines, such texts and such jumps past the end. Lack of memory may come instead of
-- what has the text, and instead of every other fault.
abbrev pub IsTextFault : {A : Type 0} → ((ProgramFormat → List Instruction → Type 0) → List (List ℕ) → Type 0) → (List ℕ → A → Type 0) → (A → ℕ → Type 0)
    → List ℕ → ProgramFault → Type 0
IsTextFault Lines Spells Skips bytes (BadLine k) = IsBadLine Lines bytes k
IsTextFault Lines Spells Skips bytes (TooLong k) = IsTooLong Lines bytes k
IsTextFault {A} Lines Spells Skips bytes (SkipPastEnd k) = (x : A) × (Spells bytes x × IsLeast (Skips x) k)
IsTextFault Lines Spells Skips bytes OutOfMemory = Unit {0}

-- why bytes aren't the text of a program of this format
abbrev pub IsProgramFault : ProgramFormat → List ℕ → ProgramFault → Type 0
IsProgramFault format bytes fault = IsTextFault (ProgramLines format) (SpellsProgram format) SkipsAt bytes fault

-- why bytes aren't the text of a set
abbrev pub IsSetFault : List ℕ → ProgramFault → Type 0
IsSetFault bytes fault = IsTextFault SetLines SpellsSet (λ set. SkipsInSetAt set.programs) bytes fault
