-- The core comes to rest where it would have from the start of the loop; each instruction leads on.
use Rattle.std.proofs.Common.{◌≡◌, ◌-◌, ◌≤◌, length}
use Rattle.core_program.specs.Running.{at_rest}
use Rattle.core_program.proofs.state.ProgramState.move_on.Given as goal

abbrev pub invariant-loop-instruction : goal.invariant-loop-instruction
invariant-loop-instruction l = (at_rest l.program l.self ≡ at_rest l.program l.initial.self) × (l.self.position ≤ length l.program)

abbrev pub decreases-loop-instruction : goal.decreases-loop-instruction
decreases-loop-instruction l = length l.program - l.self.position
