-- The faults of the pieces, one after another, make the fault of the whole.
use Rattle.std.proofs.Common.{◌≡◌, ℕ, suc, ◌+◌, ◌*◌, ◌<◌, ◌≤◌, List, [], ◌∷◌, ◌++◌, length, take, drop, Option, None, fold, arith, get_or, take-add, take_all, Ordering}
use Rattle.line_stamps.specs.Least.{lesser}

module _ {T F : Type 0} (cmp : F → F → Ordering) (fault_of : List T → Option F) (joined : (xs ys : List T) → fault_of (xs ++ ys) ≡ lesser cmp (fault_of xs) (fault_of ys)) (xs : List T) (size : ℕ) where
  -- from the first `j` pieces on
  from_pieces : (rs : List (Option F)) (j : ℕ) → ((k : ℕ) (d : Option F) → k < length rs → get_or rs k d ≡ fault_of (take size (drop ((j + k) * size) xs))) → fold (λ a b. lesser cmp a b) (fault_of (take (j * size) xs)) rs ≡ fault_of (take ((j + length rs) * size) xs)
  from_pieces [] j h = grind arith
  from_pieces (r ∷ rs) j h =
      let here = h 0 r (omega arith) in
      let both = joined (take (j * size) xs) (take size (drop (j * size) xs)) in
      let more = take-add (j * size) size xs in
      let step : lesser cmp (fault_of (take (j * size) xs)) r ≡ fault_of (take (suc j * size) xs) = grind arith in
      let rest = from_pieces rs (suc j) (λ k d l. let next = h (suc k) d (omega arith) in grind arith) in
      let at : suc j + length rs ≡ j + suc (length rs) = omega arith in
      cc

  pub whole_from_pieces : fault_of [] ≡ None → (rs : List (Option F)) → length xs ≤ length rs * size → ((k : ℕ) (d : Option F) → k < length rs → get_or rs k d ≡ fault_of (take size (drop (k * size) xs))) → fold (λ a b. lesser cmp a b) None rs ≡ fault_of xs
  whole_from_pieces none rs l h =
      let all = from_pieces rs 0 (λ k d w. let next = h k d w in grind arith) in
      let whole = take_all ((0 + length rs) * size) xs (omega arith) in
      grind arith
