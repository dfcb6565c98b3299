-- Slices when a machine starts.
use Rattle.std.specs.Prelude.{ℕ, zero, suc, List, [], ◌∷◌, ◌++◌}
use Rattle.std.specs.FinMap as map
use Rattle.lease_rule.specs.ConfigParts.{ConfigParts}
use Rattle.manager_slice.specs.Parts.{SliceParts}

-- slice n with no lines, nothing in memory and no history
abbrev pub new_slice : ConfigParts → ℕ → SliceParts
new_slice g n = record {
  number = n;
  config = g;
  state = record { lines = []; memory = record { words = map.empty; mts = 0; mrank = 0 } };
  history = [];
}

-- the first n slices
abbrev pub new_slices : ConfigParts → ℕ → List SliceParts
new_slices g zero = []
new_slices g (suc n) = new_slices g n ++ new_slice g n ∷ []
