-- The format has each instruction so far.
use Rattle.std.proofs.Common.{ℕ, ◌<◌, slice_index_or}
use Rattle.std.specs.Prelude.{IsTrue}
use Rattle.core_program.specs.declared.instruction.Instruction.{Instruction}
use Rattle.core_program.specs.Shape.{has_instruction}
use Rattle.core_program.proofs.program_set.is_of_format.Given as goal

abbrev pub invariant-loop-instruction : goal.invariant-loop-instruction
invariant-loop-instruction l = (k : ℕ) (d : Instruction) → k < l.instruction-index → IsTrue (has_instruction l.format (slice_index_or l.instructions k d))
