-- The line of the next section's first instruction.
use Rattle.std.proofs.Common.{◌≡◌, ◌+◌, ◌*◌, ◌≤◌}
use Rattle.core_program.specs.Answers.{line_in_set}
use Rattle.explain.proofs.departure.first_line.Given as goal

abbrev pub invariant-loop-number : goal.invariant-loop-number
invariant-loop-number l = record {
  is : l.line ≡ line_in_set l.programs.programs l.number 1;
  small : l.line ≤ 3 + l.number * 4097;
}
