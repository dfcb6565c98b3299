-- The program of a core.
use Rattle.std.specs.Prelude.{ℕ, List, Option, option_and_then, slice_get}
use Rattle.core_program.specs.declared.instruction.Instruction.{Instruction}

-- that among the programs of a set, if they are given
abbrev pub program_of : Option (List (List Instruction)) → ℕ → Option (List Instruction)
program_of programs core = option_and_then (λ all. slice_get all core) programs
