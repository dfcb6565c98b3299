-- Lists of entries whose keys are distinct numbers, and the finite maps that they are.
use Rattle.std.proofs.Common.{◌≡◌, ◌≢◌, ℕ, ◌-◌, ◌≤◌, true, false, cond, List, [], ◌∷◌, length, refl, sym, ap, nat_eq, ◌∙◌, arith}
use Rattle.std.specs.Prelude.{Option, Some, None}
use Rattle.std.specs.Cmp.{nat_cmp_total, nat_eq_equiv}
use Rattle.std.specs.FinMap as map
use Rattle.std.specs.FinMap.{from_entries, get-remove, len-empty, len-insert}
use Rattle.std.specs.List.{AllByRecursion, IsDistinct}
use Rattle.std.specs.Map.{lookup, lookup_entry, remove_entry, keys_of}
use Rattle.std.specs.Ordering.{nat_cmp}
use Rattle.std.proofs.lemmas.Bool.{eq-eqb, eqb-true}
use Rattle.std.proofs.lemmas.List.{take_all}
use Rattle.std.proofs.lemmas.Map.{lookup-remove_entry}
use Rattle.std.proofs.lemmas.Map.Keys.{IsDistinct-cons, IsDistinct-head, IsDistinct-tail}
use Rattle.lru.specs.LruCache.{LruCache, put_entries}
use Rattle.memory_stamp.proofs.Maps.{get-lookup, tie-nat_eq, from_entries-same, from_entries-updated}

pub distinct_nil : IsDistinct nat_eq []
unfolding IsDistinct
distinct_nil = tt

one_key : (a x y : ℕ) → nat_eq a x ≡ true → nat_eq a y ≡ nat_eq x y
one_key a x y h = ap (λ k. nat_eq k y) (eqb-true a x h)

module _ {V : Type 0} (a : ℕ) where
  -- the entry that is found has the address
  lookup_entry-key : (es : List (ℕ × V)) (e : ℕ × V) → lookup_entry (nat_eq a) es ≡ Some e → a ≡ e.0
  lookup_entry-key [] e h = absurd cc
  lookup_entry-key (f ∷ es) e h = (elim (nat_eq a f.0) as (λ y. nat_eq a f.0 ≡ y → a ≡ e.0) [
    | true ↦ λ t. let h' = rw t at h in let same : f ≡ e = cc in eqb-true a f.0 t ∙ ap (λ g. g.0) same
    | false ↦ λ t. lookup_entry-key es e (rw t at h)
  ]) refl

  -- where none is found, none goes
  without_absent : (es : List (ℕ × V)) → lookup_entry (nat_eq a) es ≡ None → remove_entry (nat_eq a) es ≡ es
  without_absent [] h = refl
  without_absent (f ∷ es) h = (elim (nat_eq a f.0) as (λ y. nat_eq a f.0 ≡ y → remove_entry (nat_eq a) (f ∷ es) ≡ f ∷ es) [
    | true ↦ λ t. let h' = rw t at h in absurd cc
    | false ↦ λ t. rw t (ap (λ r. f ∷ r) (without_absent es (rw t at h)))
  ]) refl

  pub remove_entry-absent : (es : List (ℕ × V)) → lookup (nat_eq a) es ≡ None → remove_entry (nat_eq a) es ≡ es
  remove_entry-absent [] h = refl
  remove_entry-absent (f ∷ es) h = (elim (nat_eq a f.0) as (λ y. nat_eq a f.0 ≡ y → remove_entry (nat_eq a) (f ∷ es) ≡ f ∷ es) [
    | true ↦ λ t. let h' = rw t at h in absurd cc
    | false ↦ λ t. rw t (ap (λ r. f ∷ r) (remove_entry-absent es (rw t at h)))
  ]) refl

  -- an entry that is put goes to the front, where there is room for one more
  pub put_entries-front : (c : LruCache ℕ V) (v : V) → length c.entries ≤ c.cap - 1 → put_entries nat_eq c a v ≡ (a, v) ∷ remove_entry (nat_eq a) c.entries
  put_entries-front c v room = go (lookup_entry (nat_eq a) c.entries) refl
    where
      go : (o : Option (ℕ × V)) → lookup_entry (nat_eq a) c.entries ≡ o → put_entries nat_eq c a v ≡ (a, v) ∷ remove_entry (nat_eq a) c.entries
      go None h = rw (h, without_absent c.entries h) (ap (λ r. (a, v) ∷ r) (take_all (c.cap - 1) c.entries room))
      go (Some e) h = rw h (ap (λ k. (k, v) ∷ remove_entry (nat_eq a) c.entries) (sym (lookup_entry-key c.entries e h)))

  -- ---- look-ups after a removal
  pub lookup-removed : (q : ℕ) (es : List (ℕ × V)) → IsDistinct nat_eq (keys_of es) → lookup (nat_eq q) (remove_entry (nat_eq a) es) ≡ cond (nat_eq a q) None (lookup (nat_eq q) es)
  lookup-removed q es d = lookup-remove_entry nat_eq_equiv (nat_eq a) (one_key a) q es d

  -- another key finds what it found, whether or not the keys are distinct
  lookup-kept : (q : ℕ) (es : List (ℕ × V)) → nat_eq a q ≡ false → lookup (nat_eq q) (remove_entry (nat_eq a) es) ≡ lookup (nat_eq q) es
  lookup-kept q [] n = refl
  lookup-kept q (e ∷ es) n = (elim (nat_eq a e.0) as (λ y. nat_eq a e.0 ≡ y → lookup (nat_eq q) (remove_entry (nat_eq a) (e ∷ es)) ≡ lookup (nat_eq q) (e ∷ es)) [
    | true ↦ λ t. let other : nat_eq q e.0 ≡ false = apart e.0 (eqb-true a e.0 t) in rw (t, other) refl
    | false ↦ λ t. rw (t, lookup-kept q es n) refl
  ]) refl
    where
      apart : (k : ℕ) → a ≡ k → nat_eq q k ≡ false
      apart k same = grind arith

  -- a new entry that is taken out again
  pub put_and_taken : (es : List (ℕ × V)) (x : V) → lookup (nat_eq a) es ≡ None → remove_entry (nat_eq a) ((a, x) ∷ remove_entry (nat_eq a) es) ≡ es
  put_and_taken es x h = rw (eq-eqb a a refl) (remove_entry-absent es h)

  -- ---- as finite maps
  pub from_entries-front : (es : List (ℕ × V)) (v : V) → from_entries {R = nat_cmp} ((a, v) ∷ remove_entry (nat_eq a) es) ≡ map.insert (from_entries es) a v
  from_entries-front es v = from_entries-updated es ((a, v) ∷ remove_entry (nat_eq a) es) a v at_key
    where
      at_key : (q : ℕ) → lookup (nat_eq q) ((a, v) ∷ remove_entry (nat_eq a) es) ≡ cond (nat_eq a q) (Some v) (lookup (nat_eq q) es)
      at_key q = (elim (nat_eq a q) as (λ y. nat_eq a q ≡ y → cond (nat_eq q a) (Some v) (lookup (nat_eq q) (remove_entry (nat_eq a) es)) ≡ cond y (Some v) (lookup (nat_eq q) es)) [
        | true ↦ λ t. let t' : nat_eq q a ≡ true = grind arith in rw t' refl
        | false ↦ λ t. let t' : nat_eq q a ≡ false = grind arith in rw t' (lookup-kept q es t)
      ]) refl

  pub from_entries-removed : (es : List (ℕ × V)) → IsDistinct nat_eq (keys_of es) → from_entries {R = nat_cmp} (remove_entry (nat_eq a) es) ≡ map.remove (from_entries es) a
  from_entries-removed es d = from_entries-same (remove_entry (nat_eq a) es) (map.remove (from_entries es) a) (λ q. lookup-removed q es d ∙ sym (at_key q))
    where
      at_key : (q : ℕ) → map.get (map.remove (from_entries {R = nat_cmp} es) a) q ≡ cond (nat_eq a q) None (lookup (nat_eq q) es)
      at_key q = let flipped : nat_eq q a ≡ nat_eq a q = grind arith in get-remove nat_cmp_total (from_entries es) a q ∙ rw (tie-nat_eq q a, get-lookup es q, flipped) refl

  -- ---- distinct keys
  differs : (es : List (ℕ × V)) → lookup (nat_eq a) es ≡ None → AllByRecursion (λ y. nat_eq a y ≡ false) (keys_of es)
  differs [] h = tt
  differs (e ∷ es) h = (elim (nat_eq a e.0) as (λ y. nat_eq a e.0 ≡ y → AllByRecursion (λ y. nat_eq a y ≡ false) (keys_of (e ∷ es))) [
    | true ↦ λ t. let h' = rw t at h in absurd cc
    | false ↦ λ t. (t, differs es (rw t at h))
  ]) refl

  all_kept : (P : ℕ → Type 0) (es : List (ℕ × V)) → AllByRecursion P (keys_of es) → AllByRecursion P (keys_of (remove_entry (nat_eq a) es))
  all_kept P [] h = tt
  all_kept P (e ∷ es) h = elim (nat_eq a e.0) as (λ y. AllByRecursion P (keys_of (cond y es (e ∷ remove_entry (nat_eq a) es)))) [
    | true ↦ h.1
    | false ↦ (h.0, all_kept P es h.1)
  ]

  pub distinct-removed : (es : List (ℕ × V)) → IsDistinct nat_eq (keys_of es) → IsDistinct nat_eq (keys_of (remove_entry (nat_eq a) es))
  distinct-removed [] d = d
  distinct-removed (e ∷ es) d = elim (nat_eq a e.0) as (λ y. IsDistinct nat_eq (keys_of (cond y es (e ∷ remove_entry (nat_eq a) es)))) [
    | true ↦ IsDistinct-tail nat_eq e.0 (keys_of es) d
    | false ↦ IsDistinct-cons nat_eq e.0 (keys_of (remove_entry (nat_eq a) es)) (all_kept _ es (IsDistinct-head nat_eq e.0 (keys_of es) d)) (distinct-removed es (IsDistinct-tail nat_eq e.0 (keys_of es) d))
  ]

  gone : (es : List (ℕ × V)) → IsDistinct nat_eq (keys_of es) → lookup (nat_eq a) (remove_entry (nat_eq a) es) ≡ None
  gone es d = lookup-removed a es d ∙ rw (eq-eqb a a refl) refl

  pub distinct-front : (es : List (ℕ × V)) (v : V) → IsDistinct nat_eq (keys_of es) → IsDistinct nat_eq (keys_of ((a, v) ∷ remove_entry (nat_eq a) es))
  distinct-front es v d =
      IsDistinct-cons nat_eq a (keys_of (remove_entry (nat_eq a) es)) (differs (remove_entry (nat_eq a) es) (gone es d)) (distinct-removed es d)

some_is_none : {V : Type 0} (es : List (ℕ × V)) (a v : ℕ) (y : V) → lookup (nat_eq a) es ≡ None → lookup (nat_eq v) es ≡ Some y → a ≢ v
some_is_none es a v y h k same = let h' = rw same at h in absurd cc

other_key : (a v : ℕ) → a ≢ v → nat_eq v a ≡ false
other_key a v n = grind arith

-- a new entry may be put before or after another is taken out
pub put_then_taken : {V : Type 0} (es : List (ℕ × V)) (a v : ℕ) (x y : V) → lookup (nat_eq a) es ≡ None → lookup (nat_eq v) es ≡ Some y → remove_entry (nat_eq v) ((a, x) ∷ remove_entry (nat_eq a) es) ≡ (a, x) ∷ remove_entry (nat_eq a) (remove_entry (nat_eq v) es)
put_then_taken es a v x y h k =
    let apart : nat_eq v a ≡ false = other_key a v (some_is_none es a v y h k) in
    let still : lookup (nat_eq a) (remove_entry (nat_eq v) es) ≡ None = lookup-kept v a es apart ∙ h in
    rw (apart, remove_entry-absent a es h, remove_entry-absent a (remove_entry (nat_eq v) es) still) refl

-- where no key is the first, a look-up of the first finds nothing
no_other : {V : Type 0} (k : ℕ) (es : List (ℕ × V)) → AllByRecursion (λ y. nat_eq k y ≡ false) (keys_of es) → lookup (nat_eq k) es ≡ None
no_other k [] h = refl
no_other k (e ∷ es) h = rw (h.0, no_other k es h.1) refl

-- as many entries as the map has
pub len-from_entries : {V : Type 0} (es : List (ℕ × V)) → IsDistinct nat_eq (keys_of es) → map.len (from_entries {R = nat_cmp} es) ≡ length es
len-from_entries {V} [] d = len-empty nat_cmp V
len-from_entries (e ∷ es) d =
    let new : map.get (from_entries {R = nat_cmp} es) e.0 ≡ None = get-lookup es e.0 ∙ no_other e.0 es (IsDistinct-head nat_eq e.0 (keys_of es) d) in
    let rest = len-from_entries es (IsDistinct-tail nat_eq e.0 (keys_of es) d) in
    len-insert nat_cmp_total (from_entries es) e.0 e.1 ∙ rw new (omega (arith, rest))
