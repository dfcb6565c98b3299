use Rattle.std.proofs.Common.{List, ℕ, ◌≡◌, sym, subst}
use Rattle.std.specs.Prelude.{MatchResult, Result, Ok, Err}
use Rattle.std.specs.List.{AllByRecursion}
use Rattle.core_program.specs.declared.fault.ProgramFault.{ProgramFault}
use Rattle.core_program.specs.declared.fault.ProgramFault.TheVariants.{BadLine, TooLong, SkipPastEnd, OutOfMemory}
use Rattle.core_program.specs.Answers.{IsJumpFault, IsSetFault, SpellsSet}
use Rattle.core_program.specs.SetParts.{SetParts}
use Rattle.core_program.specs.Shape.{IsProgram}
use Rattle.core_program.specs.inner.Sections.{parts_of}
use Rattle.core_program.proofs.program_set.ProgramSet.parse.Goals as goal

jump_is_fault : (text : List ℕ) (read : SetParts) (fault : ProgramFault) → SpellsSet text read → IsJumpFault read.programs fault → IsSetFault text fault
jump_is_fault text read (BadLine k) spells h = absurd h
jump_is_fault text read (TooLong k) spells h = absurd h
jump_is_fault text read (SkipPastEnd k) spells h = (read, (spells, h))
jump_is_fault text read OutOfMemory spells h = tt

-- the set of what was read
of_read : (text : List ℕ) (read : SetParts) (answer : Result SetParts ProgramFault) → SpellsSet text read
    → MatchResult answer (λ set. (set ≡ read) × AllByRecursion IsProgram set.programs) (λ fault. IsJumpFault read.programs fault)
    → MatchResult answer (λ set. SpellsSet text set × AllByRecursion IsProgram set.programs) (λ fault. IsSetFault text fault)
of_read text read (Ok set) spells h = (subst (SpellsSet text) (sym h.0) spells, h.1)
of_read text read (Err fault) spells h = jump_is_fault text read fault spells h

pub returns : goal.returns
returns c = of_read c.args.text.now (parts_of c.in_ok-parts.parts) c.of_sections.result c.in_ok-parts.ensures c.of_sections.ensures
