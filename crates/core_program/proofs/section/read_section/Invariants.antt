-- The instructions so far are those of the lines before the rest.
use Rattle.std.proofs.Common.{◌≤◌, length}
use Rattle.core_program.specs.Grammar.{instruction_text, FitsIn}
use Rattle.core_program.proofs.section.read_section.Given as goal
use Rattle.text_lines.proofs.Items.{SoFar}

abbrev pub invariant-loop-instruction : goal.invariant-loop-instruction
invariant-loop-instruction l = (length l.instructions.items ≤ 4096) × SoFar instruction_text (FitsIn l.format) l.text l.instructions.items l.rest

abbrev pub decreases-loop-instruction : goal.decreases-loop-instruction
decreases-loop-instruction l = length l.rest
