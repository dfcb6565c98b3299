-- The texts of instructions, programs and sets of programs, and which of these have one.
use Rattle.std.specs.Prelude.{ℕ, suc, ◌<◌, ◌≤◌, ◌^◌, IsTrue, List, [], ◌∷◌, ◌++◌, length, map, codes}
use Rattle.std.specs.List.{join_with_byte, AllByRecursion}
use Rattle.decimal_text.specs.Numbers.{numeral}
use Rattle.core_program.specs.declared.instruction.Instruction.{Instruction}
use Rattle.core_program.specs.declared.instruction.Instruction.TheVariants.{Load, Store, StoreRegister, Add, SkipIfZero, Swap}
use Rattle.core_program.specs.declared.format.ProgramFormat.{ProgramFormat}
use Rattle.core_program.specs.declared.format.ProgramFormat.TheVariants.{One, Two}
use Rattle.core_program.specs.SetParts.{SetParts}
use Rattle.core_program.specs.Shape.{has_instruction}

-- the number of a format
abbrev pub format_number : ProgramFormat → ℕ
format_number One = 1
format_number Two = 2

-- ---- the texts

-- `rN`
abbrev pub register_text : ℕ → List ℕ
register_text n = codes "r" ++ numeral n

-- the fields of an instruction's line
abbrev pub fields_of : Instruction → List (List ℕ)
fields_of (Load to addr) = codes "ld" ∷ register_text to ∷ numeral addr ∷ []
fields_of (Store addr value) = codes "st" ∷ numeral addr ∷ numeral value ∷ []
fields_of (StoreRegister addr from) = codes "sr" ∷ numeral addr ∷ register_text from ∷ []
fields_of (Add to from value) = codes "ai" ∷ register_text to ∷ register_text from ∷ numeral value ∷ []
fields_of (SkipIfZero tested skip) = codes "jz" ∷ register_text tested ∷ numeral skip ∷ []
fields_of (Swap to addr value) = codes "sw" ∷ register_text to ∷ numeral addr ∷ numeral value ∷ []

-- an instruction's line: its fields, with one space between them
unfoldable pub instruction_text : Instruction → List ℕ
instruction_text instruction = join_with_byte 32 (fields_of instruction)

-- the first line of a set of programs in this format, for this number of cores
unfoldable pub header_text : ℕ → ℕ → List ℕ
header_text format cores = codes "tardis-programs " ++ (numeral format ++ (codes " cores " ++ numeral cores))

-- the line before a core's instructions
unfoldable pub core_text : ℕ → List ℕ
core_text core = codes "core " ++ numeral core

-- the last line of a set of programs
abbrev pub end_text : List ℕ
end_text = codes "end"

abbrev pub program_lines : List Instruction → List (List ℕ)
program_lines program = map instruction_text program

-- the sections of cores core, core + 1, .., whose programs are these
abbrev pub sections : ℕ → List (List Instruction) → List (List ℕ)
sections core [] = []
sections core (program ∷ programs) = core_text core ∷ (program_lines program ++ sections (suc core) programs)

abbrev pub set_lines : SetParts → List (List ℕ)
set_lines set = header_text (format_number set.format) (length set.programs) ∷ (sections 0 set.programs ++ end_text ∷ [])

-- ---- what has a text

-- the numbers of an instruction are in range
abbrev pub Fits : Instruction → Type 0
Fits (Load to addr) = (to < 16) × (addr < 65536)
Fits (Store addr value) = (addr < 65536) × (value < 2 ^ 64)
Fits (StoreRegister addr from) = (addr < 65536) × (from < 16)
Fits (Add to from value) = (to < 16) × (from < 16) × (value < 2 ^ 64)
Fits (SkipIfZero tested skip) = (tested < 16) × (1 ≤ skip) × (skip ≤ 4095)
Fits (Swap to addr value) = (to < 16) × (addr < 65536) × (value < 2 ^ 64)

-- a program of this format may have the instruction, and its numbers are in range
pub record FitsIn (format : ProgramFormat) (instruction : Instruction) : Type 0 where
  pub has : IsTrue (has_instruction format instruction)
  pub numbers : Fits instruction

-- instructions that a section of this format may have, however many they are
abbrev pub EachFits : ProgramFormat → List Instruction → Type 0
EachFits format program = AllByRecursion (FitsIn format) program

-- the instructions of a section of this format: at most 4,096
pub record IsSection (format : ProgramFormat) (program : List Instruction) : Type 0 where
  pub few : length program ≤ 4096
  pub each_fits : EachFits format program

-- one section for each of 1 to 64 cores
pub record IsSetOf (Section : List Instruction → Type 0) (set : List (List Instruction)) : Type 0 where
  pub some : 1 ≤ length set
  pub few : length set ≤ 64
  pub each : AllByRecursion Section set
