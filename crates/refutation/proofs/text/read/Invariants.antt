-- The steps so far are those of the lines before the rest.
use Rattle.std.proofs.Common.{length}
use Rattle.refutation.specs.Grammar.{step_text, Fits}
use Rattle.refutation.proofs.text.read.Given as goal
use Rattle.text_lines.proofs.Items.{SoFar}

abbrev pub invariant-loop-steps : goal.invariant-loop-steps
invariant-loop-steps l = SoFar step_text Fits l.initial.rest l.steps.items l.rest

abbrev pub decreases-loop-steps : goal.decreases-loop-steps
decreases-loop-steps l = length l.rest
