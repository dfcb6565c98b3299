-- The numbers so far are the words before the rest.
use Rattle.std.proofs.Common.{length, ◌<◌, ◌^◌}
use Rattle.decimal_text.specs.Numbers.{numeral}
use Rattle.refutation.proofs.state_line.read_part.Given as goal
use Rattle.text_lines.proofs.SpacedWords.{WordsSoFar}

abbrev pub invariant-loop-number : goal.invariant-loop-number
invariant-loop-number l = WordsSoFar numeral (λ number. number < 2 ^ 64) l.initial.rest l.numbers.items l.rest

abbrev pub decreases-loop-number : goal.decreases-loop-number
decreases-loop-number l = length l.rest
