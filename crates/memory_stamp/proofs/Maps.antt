-- Finite maps made of lists of entries, by look-ups.
use Rattle.std.proofs.Common.{◌≡◌, ℕ, cond, nat_eq, List, [], ◌∷◌, refl, sym, ◌∙◌, arith}
use Rattle.std.specs.Prelude.{Some}
use Rattle.std.specs.Cmp.{nat_cmp_total}
use Rattle.std.specs.FinMap as map
use Rattle.std.specs.FinMap.{FinMap, find, from_entries, get-from_entries, get-insert, nat_cmp-IsAntisymmetric, same_map}
use Rattle.std.specs.Map.{lookup}
use Rattle.std.specs.Ordering.{eq_by_cmp, nat_cmp}

-- the keys' order ties just the equal ones
pub tie-nat_eq : (q k : ℕ) → eq_by_cmp nat_cmp q k ≡ nat_eq q k
tie-nat_eq q k = grind arith

-- a look-up in the map is one in the entries
pub get-lookup : {X : Type 0} (es : List (ℕ × X)) (q : ℕ) → map.get (from_entries {R = nat_cmp} es) q ≡ lookup (nat_eq q) es
get-lookup es q = get-from_entries nat_cmp_total es q ∙ found es
  where
    found : {X : Type 0} (es : List (ℕ × X)) → find nat_cmp q es ≡ lookup (nat_eq q) es
    found [] = refl
    found (e ∷ es) = rw (tie-nat_eq q e.0, found es) refl

swapped : (q k : ℕ) → nat_eq q k ≡ nat_eq k q
swapped q k = grind arith

get-inserted : {X : Type 0} (es : List (ℕ × X)) (k : ℕ) (v : X) (q : ℕ) → map.get (map.insert (from_entries {R = nat_cmp} es) k v) q ≡ cond (nat_eq k q) (Some v) (lookup (nat_eq q) es)
get-inserted es k v q = get-insert nat_cmp_total (from_entries es) k v q ∙ rw (tie-nat_eq q k, get-lookup es q, swapped q k) refl

-- entries that look alike are one map
pub from_entries-same : {X : Type 0} (es : List (ℕ × X)) (m : FinMap nat_cmp X) → ((q : ℕ) → lookup (nat_eq q) es ≡ map.get m q) → from_entries es ≡ m
from_entries-same es m h = same_map nat_cmp_total nat_cmp-IsAntisymmetric (from_entries es) m (λ q. get-lookup es q ∙ h q)

-- entries that look like others but for one key are the others with that key
pub from_entries-updated : {X : Type 0} (es fs : List (ℕ × X)) (k : ℕ) (v : X) → ((q : ℕ) → lookup (nat_eq q) fs ≡ cond (nat_eq k q) (Some v) (lookup (nat_eq q) es)) → from_entries {R = nat_cmp} fs ≡ map.insert (from_entries es) k v
from_entries-updated es fs k v h =
    from_entries-same fs (map.insert (from_entries es) k v) (λ q. h q ∙ sym (get-inserted es k v q))
