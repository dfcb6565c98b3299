-- The programs so far are the sections so far, and none of them has a jump past its end.
use Rattle.std.proofs.Common.{length}
use Rattle.core_program.specs.Sections.{section_lists}
use Rattle.core_program.proofs.Jumps.{NoJumps}
use Rattle.core_program.proofs.set_text.programs_of.Given as goal

abbrev pub invariant-loop-instructions : goal.invariant-loop-instructions
invariant-loop-instructions l =
    NoJumps (section_lists l.fn.sections.items) l.programs.items (length l.yielded) l.line
