-- The entries of a cache by their addresses: what a put leaves, and that no address is there twice.
use Rattle.std.proofs.Common.{◌≡◌, ℕ, ◌-◌, ◌≤◌, true, false, ◌||◌, cond, List, [], ◌∷◌, length, refl, sym, ap, nat_eq, nat_lt, Some, None, is_some, arith}
use Rattle.std.proofs.lemmas.Grind.{common_steps}
use Rattle.std.proofs.lemmas.Bool.{eqb-true, eq-eqb}
use Rattle.std.proofs.lemmas.List.{take_all}
use Rattle.std.specs.List.{AllByRecursion, IsDistinct}
use Rattle.std.specs.Option.{option_map_or}
use Rattle.std.specs.Map.{keys_of, lookup, lookup_entry, remove_entry, set_value}
use Rattle.std.specs.Set.{remove_key}
use Rattle.lru.specs.LruCache.{LruCache, promoted, put_entries}

module _ {V : Type 0} (a : ℕ) where
  -- where the address is there, the entry that is found has that address
  found : (es : List (ℕ × V)) → is_some (lookup (nat_eq a) es) ≡ true → (x : V) × (lookup_entry (nat_eq a) es ≡ Some (a, x))
  found [] h = absurd cc
  found (e ∷ es) h = (elim (nat_eq a e.0) as (λ y. nat_eq a e.0 ≡ y → (x : V) × (lookup_entry (nat_eq a) (e ∷ es) ≡ Some (a, x))) [
    | true ↦ λ t. (e.1, rw t (ap (λ k. Some (k, e.1)) (sym (eqb-true a e.0 t))))
    | false ↦ λ t. let at = found es (rw t at h) in (at.0, rw t at.1)
  ]) refl

  pub put-there : (es : List (ℕ × V)) (v : V) (d : List (ℕ × V)) → is_some (lookup (nat_eq a) es) ≡ true →
      option_map_or (λ e. (e.0, v) ∷ remove_entry (nat_eq a) es) (lookup_entry (nat_eq a) es) d ≡ (a, v) ∷ remove_entry (nat_eq a) es
  put-there es v d h = rw ((found es h).1) refl

  -- where it is there, it comes to the front, and then gets this line
  pub promoted-value : (es : List (ℕ × V)) (v : V) → is_some (lookup (nat_eq a) es) ≡ true →
      set_value (nat_eq a) (promoted (nat_eq a) es) v ≡ (a, v) ∷ remove_entry (nat_eq a) es
  promoted-value es v h = rw ((found es h).1, eq-eqb a a refl) refl

  -- where it isn't, nothing is found and nothing goes
  absent : (es : List (ℕ × V)) → is_some (lookup (nat_eq a) es) ≡ false → (lookup_entry (nat_eq a) es ≡ None) × (remove_entry (nat_eq a) es ≡ es)
  absent [] h = (refl, refl)
  absent (e ∷ es) h = (elim (nat_eq a e.0) as (λ y. nat_eq a e.0 ≡ y → (lookup_entry (nat_eq a) (e ∷ es) ≡ None) × (remove_entry (nat_eq a) (e ∷ es) ≡ e ∷ es)) [
    | true ↦ λ t. let bad = rw t at h in absurd cc
    | false ↦ λ t. let at = absent es (rw t at h) in rw t (at.0, ap (λ r. e ∷ r) at.1)
  ]) refl

  -- where one more has room, or it is there, a put brings it to the front and pushes none out
  pub put-front : (c : LruCache ℕ V) (v : V) → nat_lt (length c.entries) c.cap || is_some (lookup (nat_eq a) c.entries) ≡ true →
      put_entries nat_eq c a v ≡ (a, v) ∷ remove_entry (nat_eq a) c.entries
  put-front c v h = (elim (is_some (lookup (nat_eq a) c.entries)) as (λ y. is_some (lookup (nat_eq a) c.entries) ≡ y → put_entries nat_eq c a v ≡ (a, v) ∷ remove_entry (nat_eq a) c.entries) [
    | true ↦ λ t. put-there c.entries v _ t
    | false ↦ λ t.
        let at = absent c.entries t in
        let room : length c.entries ≤ c.cap - 1 = let lt = rw t at h in grind (arith, common_steps) in
        rw (at.0, at.1) (ap (λ r. (a, v) ∷ r) (take_all (c.cap - 1) c.entries room))
  ]) refl

  pub keys-remove_entry : (es : List (ℕ × V)) → keys_of (remove_entry (nat_eq a) es) ≡ remove_key (nat_eq a) (keys_of es)
  keys-remove_entry [] = refl
  keys-remove_entry (e ∷ es) = (elim (nat_eq a e.0) as (λ y. nat_eq a e.0 ≡ y → keys_of (remove_entry (nat_eq a) (e ∷ es)) ≡ remove_key (nat_eq a) (e.0 ∷ keys_of es)) [
    | true ↦ λ t. rw t refl
    | false ↦ λ t. rw t (ap (λ ks. e.0 ∷ ks) (keys-remove_entry es))
  ]) refl

-- what holds of all holds of all that stay
stays : (P : ℕ → Type 0) (a : ℕ) (ks : List ℕ) → AllByRecursion P ks → AllByRecursion P (remove_key (nat_eq a) ks)
stays P a [] h = tt
stays P a (k ∷ ks) h = elim (nat_eq a k) as (λ y. AllByRecursion P (cond y ks (k ∷ remove_key (nat_eq a) ks))) [
  | true ↦ h.1
  | false ↦ (h.0, stays P a ks h.1)
]

pub distinct-remove_key : (a : ℕ) (ks : List ℕ) → IsDistinct nat_eq ks → IsDistinct nat_eq (remove_key (nat_eq a) ks)
unfolding IsDistinct
distinct-remove_key a [] d = tt
distinct-remove_key a (k ∷ ks) d = elim (nat_eq a k) as (λ y. IsDistinct nat_eq (cond y ks (k ∷ remove_key (nat_eq a) ks))) [
  | true ↦ d.1
  | false ↦ (stays (λ y. nat_eq k y ≡ false) a ks d.0, distinct-remove_key a ks d.1)
]

-- after a tie, no other key ties
gone : (a k : ℕ) (ks : List ℕ) → nat_eq a k ≡ true → AllByRecursion (λ y. nat_eq k y ≡ false) ks → AllByRecursion (λ y. nat_eq a y ≡ false) ks
gone a k ks t h = let same : a ≡ k = eqb-true a k t in rw same h

differs : (a : ℕ) (ks : List ℕ) → IsDistinct nat_eq ks → AllByRecursion (λ y. nat_eq a y ≡ false) (remove_key (nat_eq a) ks)
unfolding IsDistinct
differs a [] d = tt
differs a (k ∷ ks) d = (elim (nat_eq a k) as (λ y. nat_eq a k ≡ y → AllByRecursion (λ z. nat_eq a z ≡ false) (cond y ks (k ∷ remove_key (nat_eq a) ks))) [
  | true ↦ λ t. gone a k ks t d.0
  | false ↦ λ t. (t, differs a ks d.1)
]) refl

-- an address goes to the front of an order of use
pub distinct-front : (a : ℕ) (ks : List ℕ) → IsDistinct nat_eq ks → IsDistinct nat_eq (a ∷ remove_key (nat_eq a) ks)
unfolding IsDistinct
distinct-front a ks d = (differs a ks d, distinct-remove_key a ks d)
