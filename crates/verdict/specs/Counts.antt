-- The range of the numbers of files and workers, and the number of programs.
use Rattle.std.specs.Prelude.{◌≡◌, ◌≢◌, ℕ, ◌≤◌, ◌<◌, ◌⊎◌, List, length, Option, None, Some, All}
use Rattle.core_program.specs.Shape.{IsProgram}
use Rattle.core_program.specs.declared.instruction.Instruction.{Instruction}
use Rattle.verdict.specs.declared.judge_fault.JudgeFault.{JudgeFault}
use Rattle.verdict.specs.declared.judge_fault.JudgeFault.TheVariants.{BadConfig, Log, OutOfMemory, Read}

abbrev pub IsInRange : ℕ → Type 0
IsInRange n = (1 ≤ n) × (n ≤ 64)

abbrev pub IsOutOfRange : ℕ → Type 0
IsOutOfRange n = (n < 1) ⊎ (64 < n)

-- the fault is a bad count
abbrev pub IsBadCount : JudgeFault → Type 0
IsBadCount (BadConfig count) = Unit {0}
IsBadCount (Log file line fault) = ⊥
IsBadCount OutOfMemory = ⊥
IsBadCount (Read file) = ⊥

-- if programs are given, each of them is a program, and there are n of them
abbrev pub AreAsMany : ℕ → Option (List (List Instruction)) → Type 0
AreAsMany n None = Unit {0}
AreAsMany n (Some programs) = All IsProgram programs × (length programs ≡ n)

-- programs are given, but not n of them
abbrev pub AreNotAsMany : ℕ → Option (List (List Instruction)) → Type 0
AreNotAsMany n None = ⊥
AreNotAsMany n (Some programs) = length programs ≢ n
