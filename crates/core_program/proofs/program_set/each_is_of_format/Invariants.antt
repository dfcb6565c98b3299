-- The format has each instruction of the programs so far.
use Rattle.std.proofs.Common.{ℕ, ◌<◌, List, slice_index_or}
use Rattle.core_program.specs.declared.instruction.Instruction.{Instruction}
use Rattle.core_program.specs.Shape.{IsOfFormat}
use Rattle.core_program.proofs.program_set.each_is_of_format.Given as goal

abbrev pub invariant-loop-program : goal.invariant-loop-program
invariant-loop-program l = (k : ℕ) (d : List Instruction) → k < l.program-index → IsOfFormat l.format (slice_index_or l.programs k d)
