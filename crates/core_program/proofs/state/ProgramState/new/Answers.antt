use Rattle.std.proofs.Common.{sym, subst, []}
use Rattle.core_program.specs.Meaning.{Path, stays}
use Rattle.core_program.specs.State.{start}
use Rattle.core_program.proofs.Paths.{at_rest-path}
use Rattle.core_program.proofs.state.ProgramState.new.Goals as goal

pub returns-clause-path : goal.returns-clause-path
returns-clause-path c =
    subst (Path c.args.program.now start []) (sym c.move_on.ensures.state) (at_rest-path c.args.program.now start start [] stays)
