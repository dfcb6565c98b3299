-- Each program so far is one.
use Rattle.std.proofs.Common.{ℕ, ◌<◌, List, slice_index_or}
use Rattle.core_program.specs.declared.instruction.Instruction.{Instruction}
use Rattle.core_program.specs.Shape.{IsProgram}
use Rattle.core_program.proofs.program_set.each_is_program.Given as goal

abbrev pub invariant-loop-program : goal.invariant-loop-program
invariant-loop-program l = (k : ℕ) (d : List Instruction) → k < l.program-index → IsProgram (slice_index_or l.programs k d)
