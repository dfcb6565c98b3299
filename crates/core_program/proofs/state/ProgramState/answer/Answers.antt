use Rattle.std.proofs.Common.{sym, ◌∙◌, ap}
use Rattle.core_program.specs.Running.{at_rest}
use Rattle.core_program.proofs.Paths.{answer-path}
use Rattle.core_program.proofs.state.ProgramState.answer.Goals as goal

pub returns-in-Some-clause-path : goal.returns-in-Some-clause-path
returns-in-Some-clause-path c =
    answer-path c.args.program.now c.args.self.now c.move_on.new.self c.in-Some.instruction.now c.args.word
    (sym c.in-Some.ensures.next) (c.move_on.ensures.state ∙ ap (at_rest c.args.program.now) c.perform.ensures)
