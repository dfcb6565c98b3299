-- Which lists of instructions are programs.
use Rattle.std.specs.Prelude.{◌≡◌, ℕ, ◌+◌, ◌≤◌, Bool, true, false, nat_lt, All, IsTrue, List, length, slice_get}
use Rattle.std.specs.Option.{option_map_or}
use Rattle.core_program.specs.declared.instruction.Instruction.{Instruction}
use Rattle.core_program.specs.declared.instruction.Instruction.TheVariants.{Load, Store, StoreRegister, Add, SkipIfZero, Swap}
use Rattle.core_program.specs.declared.format.ProgramFormat.{ProgramFormat}
use Rattle.core_program.specs.declared.format.ProgramFormat.TheVariants.{One, Two}

-- whether an instruction is a load, a store or a swap
abbrev pub touches_memory : Instruction → Bool
touches_memory (Load to addr) = true
touches_memory (Store addr value) = true
touches_memory (StoreRegister addr from) = true
touches_memory (Add to from value) = false
touches_memory (SkipIfZero tested skip) = false
touches_memory (Swap to addr value) = true

-- whether the instruction at index i of `count` jumps further than just past the last one
abbrev pub skips_past : ℕ → ℕ → Instruction → Bool
skips_past count i (SkipIfZero register skip) = nat_lt count (i + 1 + skip)
skips_past count i (Load to addr) = false
skips_past count i (Store addr value) = false
skips_past count i (StoreRegister addr from) = false
skips_past count i (Add to from value) = false
skips_past count i (Swap to addr value) = false

abbrev pub is_skip_past_end : List Instruction → ℕ → Bool
is_skip_past_end program i = option_map_or (skips_past (length program) i) (slice_get program i) false

-- at most 4,096 instructions, and no jump goes further than to just past the last one
pub record IsProgram (program : List Instruction) : Type 0 where
  pub short : length program ≤ 4096
  pub inside : (i : ℕ) → is_skip_past_end program i ≡ false

-- whether a program of this format may have this instruction: format 1 has no swaps
abbrev pub has_instruction : ProgramFormat → Instruction → Bool
has_instruction format (Load to addr) = true
has_instruction format (Store addr value) = true
has_instruction format (StoreRegister addr from) = true
has_instruction format (Add to from value) = true
has_instruction format (SkipIfZero tested skip) = true
has_instruction One (Swap to addr value) = false
has_instruction Two (Swap to addr value) = true

-- a program of this format may have each of the instructions
abbrev pub IsOfFormat : ProgramFormat → List Instruction → Type 0
IsOfFormat format program = All (λ instruction. IsTrue (has_instruction format instruction)) program
