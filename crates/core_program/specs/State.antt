-- The state of a core in its program.
use Rattle.std.specs.Prelude.{ℕ, ◌+◌, List, replicate, slice_index, slice_set}

-- the position of the next instruction, and the words of the sixteen registers
pub record State : Type 0 where
  pub position : ℕ
  pub registers : List ℕ

-- at the first instruction, with all registers 0
abbrev pub start : State
start = record { position = 0; registers = replicate 16 0 }

abbrev pub reg : State → ℕ → ℕ
reg s n = slice_index s.registers n

abbrev pub with_reg : State → ℕ → ℕ → State
with_reg s n x = record s { registers = slice_set s.registers n x }

-- n instructions further
abbrev pub further : ℕ → State → State
further n s = record s { position = s.position + n }
