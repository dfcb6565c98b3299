-- The words of the registers so far.
use Rattle.std.proofs.Common.{◌≡◌, ◌<◌, ℕ, length}
use Rattle.std.specs.Prelude.{slice_index}
use Rattle.core_program.specs.State.{reg}
use Rattle.explain.proofs.departure.registers.Given as goal

abbrev pub invariant-loop-number : goal.invariant-loop-number
invariant-loop-number l = record {
  long : length l.words ≡ 16;
  so_far : (n : ℕ) → n < l.number → slice_index l.words n ≡ reg l.state n;
}
