-- Places of lists.
use Rattle.std.specs.Prelude.{◌≡◌, ◌≢◌, ℕ, ◌<◌, List, Some, slice_get, slice_set, length}
use Rattle.std.proofs.Common.{arith}
use Rattle.std.proofs.lemmas.Grind.{common_steps}
use Rattle.std.proofs.lemmas.Option.{gets, slice_get_within}

pub within : {X : Type 0} (xs : List X) (n : ℕ) (x : X) → slice_get xs n ≡ Some x → n < length xs
within xs n x e = slice_get_within xs n x e

pub set_here : {X : Type 0} (xs : List X) (n : ℕ) (x : X) → n < length xs → slice_get (slice_set xs n x) n ≡ Some x
set_here xs n x l = grind (arith, common_steps, gets)

pub set_elsewhere : {X : Type 0} (xs : List X) (n m : ℕ) (x : X) → m ≢ n → slice_get (slice_set xs n x) m ≡ slice_get xs m
set_elsewhere xs n m x other = grind (arith, common_steps, gets)
