-- The ranges so far are the words before the rest.
use Rattle.std.proofs.Common.{length}
use Rattle.refutation.specs.Grammar.{range_text, RangeFits}
use Rattle.refutation.proofs.line.read_ranges.Given as goal
use Rattle.text_lines.proofs.SpacedWords.{WordsSoFar}

abbrev pub invariant-loop-found : goal.invariant-loop-found
invariant-loop-found l = WordsSoFar range_text RangeFits l.initial.rest l.ranges.items l.rest

abbrev pub decreases-loop-found : goal.decreases-loop-found
decreases-loop-found l = length l.rest
