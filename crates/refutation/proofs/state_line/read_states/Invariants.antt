-- The states so far are those before the rest.
use Rattle.std.proofs.Common.{length}
use Rattle.refutation.proofs.StateTexts.{StatesSoFar}
use Rattle.refutation.proofs.state_line.read_states.Given as goal

abbrev pub invariant-loop-states : goal.invariant-loop-states
invariant-loop-states l = StatesSoFar l.initial.rest l.states.items l.rest

abbrev pub decreases-loop-states : goal.decreases-loop-states
decreases-loop-states l = length l.rest
