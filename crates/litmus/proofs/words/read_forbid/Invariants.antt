-- The values so far are the words before the rest.
use Rattle.std.proofs.Common.{length, ◌<◌, ◌^◌}
use Rattle.decimal_text.specs.Numbers.{numeral}
use Rattle.litmus.proofs.words.read_forbid.Given as goal
use Rattle.text_lines.proofs.SpacedWords.{WordsSoFar}

abbrev pub invariant-loop-value : goal.invariant-loop-value
invariant-loop-value l = WordsSoFar numeral (λ value. value < 2 ^ 64) l.initial.rest l.values.items l.rest

abbrev pub decreases-loop-value : goal.decreases-loop-value
decreases-loop-value l = length l.rest
