-- How many slices have a lock, and how many are still to get one.
use Rattle.std.specs.Prelude.{◌≡◌, ◌+◌, vec_len}
use Rattle.std.specs.Vec.Iter.{into_iter_len}
use Rattle.slice_bank.proofs.bank.SliceBank.new.Given as goal

abbrev pub invariant-loop-slice : goal.invariant-loop-slice
invariant-loop-slice l = vec_len l.slices + into_iter_len l.slice-iterator ≡ l.config.slices
