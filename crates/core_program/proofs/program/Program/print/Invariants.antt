-- The text so far is that of the instructions so far.
use Rattle.std.proofs.Common.{◌≡◌, take}
use Rattle.core_program.specs.Grammar.{program_lines, EachFits}
use Rattle.core_program.specs.declared.format.ProgramFormat.TheVariants.{Two}
use Rattle.text_lines.specs.Lines.{text_of}
use Rattle.core_program.proofs.program.Program.print.Given as goal

abbrev pub invariant-loop-instruction : goal.invariant-loop-instruction
invariant-loop-instruction l =
    let printed = take l.instruction-index l.instruction-items in
    (l.text.items ≡ text_of (program_lines printed)) × EachFits Two printed
