-- How many slices are given and how many are left, and that there is room for all.
use Rattle.std.specs.Prelude.{◌≡◌, ◌+◌, ◌≤◌, vec_len, vec_capacity}
use Rattle.std.specs.Vec.Iter.{into_iter_len}
use Rattle.slice_bank.proofs.bank.SliceBank.into_slices.Given as goal

abbrev pub invariant-loop-slice : goal.invariant-loop-slice
invariant-loop-slice l =
    (vec_len l.given + into_iter_len l.slice-iterator ≡ l.fn.self.slices) × (l.fn.self.slices ≤ vec_capacity l.given)
