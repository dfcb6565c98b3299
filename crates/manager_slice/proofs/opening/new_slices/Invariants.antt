-- The slices so far, and how many they are.
use Rattle.std.specs.Prelude.{◌≡◌, vec_len}
use Rattle.manager_slice.specs.Opening.{new_slices}
use Rattle.manager_slice.proofs.opening.new_slices.Given as goal

abbrev pub invariant-loop-number : goal.invariant-loop-number
invariant-loop-number l = (l.slices.items ≡ new_slices l.config l.number) × (vec_len l.slices ≡ l.number)
