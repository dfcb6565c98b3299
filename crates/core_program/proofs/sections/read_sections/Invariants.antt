-- The sections so far are all whose lines come before the rest.
use Rattle.core_program.specs.Sections.{section_lists}
use Rattle.core_program.proofs.ManySections.{SectionsSoFar}
use Rattle.core_program.proofs.sections.read_sections.Given as goal

abbrev pub invariant-loop-core : goal.invariant-loop-core
invariant-loop-core l = SectionsSoFar l.format l.cores l.text (section_lists l.programs.items) l.rest l.line l.core
