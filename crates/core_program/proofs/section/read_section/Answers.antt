use Rattle.std.proofs.Common.{arith}
use Rattle.core_program.proofs.ProgramTexts.{too_many}
use Rattle.core_program.proofs.section.read_section.Goals as goal

pub returns-then-len-eq-SECTION_LIMIT-clause-too_long :
    goal.returns-then-len-eq-SECTION_LIMIT-clause-too_long
returns-then-len-eq-SECTION_LIMIT-clause-too_long c =
    let full = c.if-len-eq-SECTION_LIMIT.true in
    (omega arith, too_many c.args.format c.args.text.now c.loop-instruction.rest.now c.in-Some.behind.now c.loop-instruction.instructions.items c.in-Some.instruction c.loop-instruction.invariant.1 c.in-Some.ensures.found (omega arith))
