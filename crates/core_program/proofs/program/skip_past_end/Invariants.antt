-- No jump before `i` goes past the end.
use Rattle.std.proofs.Common.{◌≡◌, ◌<◌, ℕ, false}
use Rattle.core_program.specs.Shape.{is_skip_past_end}
use Rattle.core_program.proofs.program.skip_past_end.Given as goal

abbrev pub invariant-loop-i : goal.invariant-loop-i
invariant-loop-i l = (k : ℕ) → k < l.i → is_skip_past_end l.instructions k ≡ false
