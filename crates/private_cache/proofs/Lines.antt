-- The entries of a cache as a finite map: what an entry put first, set or taken out is to the map.
use Rattle.std.proofs.Common.{◌≡◌, ◌≢◌, ℕ, true, false, cond, nat_eq, eqb, List, [], ◌∷◌, length, refl, sym, ap, ◌∙◌, inl, inr, arith, is_some, IsSome, add-one}
use Rattle.std.specs.Prelude.{Some, None}
use Rattle.std.specs.Ordering.{nat_cmp, eq_by_cmp}
use Rattle.std.proofs.lemmas.Cmp.{nat_cmp_total, nat_eq_equiv}
use Rattle.std.proofs.lemmas.Bool.Decides.{eqb_tells}
use Rattle.std.proofs.lemmas.Map.{lookup-set_value, lookup-remove_entry}
use Rattle.std.specs.List.{AllByRecursion, IsDistinct}
use Rattle.std.specs.Map.{keys_of, lookup, remove_entry, set_value}
use Rattle.std.specs.FinMap as map
use Rattle.std.specs.FinMap.{find, get-from_entries, get-insert, get-remove, len-insert, len-empty, same_map, nat_cmp-IsAntisymmetric}

ties : (q a : ℕ) → eq_by_cmp nat_cmp q a ≡ nat_eq q a
ties q a = grind arith

turned : (q a : ℕ) → eq_by_cmp nat_cmp q a ≡ nat_eq a q
turned q a = grind arith

one_key : (a x y : ℕ) → nat_eq a x ≡ true → nat_eq a y ≡ nat_eq x y
one_key a x y t = grind arith

module _ {X : Type 0} where
  abbrev pub lines : List (ℕ × X) → map.FinMap nat_cmp X
  lines es = map.from_entries es

  -- a look-up in the entries is one in the map
  pub get-lines : (es : List (ℕ × X)) (q : ℕ) → map.get (lines es) q ≡ lookup (nat_eq q) es
  get-lines es q = get-from_entries nat_cmp_total es q ∙ finds es
    where
      finds : (es : List (ℕ × X)) → find nat_cmp q es ≡ lookup (nat_eq q) es
      finds [] = refl
      finds (e ∷ es) = rw (ties q e.0, finds es) refl

  same : (es : List (ℕ × X)) (m : map.FinMap nat_cmp X) → ((q : ℕ) → lookup (nat_eq q) es ≡ map.get m q) → lines es ≡ m
  same es m h = same_map nat_cmp_total nat_cmp-IsAntisymmetric _ _ (λ q. get-lines es q ∙ h q)

  -- the first entry whose key ties hides no other key
  hidden : (a q : ℕ) → q ≢ a → (es : List (ℕ × X)) → lookup (nat_eq q) (remove_entry (nat_eq a) es) ≡ lookup (nat_eq q) es
  hidden a q n [] = refl
  hidden a q n (e ∷ es) = elim (eqb_tells a e.0) [
    | inl i ↦ let other : eqb q e.0 ≡ false = grind arith in rw (i.0, other) refl
    | inr i ↦ rw (i.0, hidden a q n es) refl
  ]

  -- an entry that goes first, as at a hit or a fill
  pub lines-front : (es : List (ℕ × X)) (a : ℕ) (h : X) → lines ((a, h) ∷ remove_entry (nat_eq a) es) ≡ map.insert (lines es) a h
  lines-front es a h = same ((a, h) ∷ remove_entry (nat_eq a) es) _ (λ q. here q ∙ sym (get-insert nat_cmp_total (lines es) a h q))
    where
      here : (q : ℕ) → cond (nat_eq q a) (Some h) (lookup (nat_eq q) (remove_entry (nat_eq a) es)) ≡ cond (eq_by_cmp nat_cmp q a) (Some h) (map.get (lines es) q)
      here q = rw (ties q a) (elim (eqb_tells q a) [
        | inl i ↦ rw i.0 refl
        | inr i ↦ rw i.0 (hidden a q i.1 es ∙ sym (get-lines es q))
      ])

  -- an entry that gets another line where it stands, as at a write-back
  pub lines-set_value : (es : List (ℕ × X)) (a : ℕ) (h : X) → IsSome (lookup (nat_eq a) es) → lines (set_value (nat_eq a) es h) ≡ map.insert (lines es) a h
  lines-set_value es a h there = same _ _ (λ q.
      lookup-set_value nat_eq_equiv (nat_eq a) (one_key a) q h es there
      ∙ sym (get-insert nat_cmp_total (lines es) a h q ∙ rw (turned q a, get-lines es q) refl))

  -- an entry that is taken out
  pub lines-remove_entry : (es : List (ℕ × X)) (a : ℕ) → IsDistinct nat_eq (keys_of es) → lines (remove_entry (nat_eq a) es) ≡ map.remove (lines es) a
  lines-remove_entry es a d = same _ _ (λ q.
      lookup-remove_entry nat_eq_equiv (nat_eq a) (one_key a) q es d
      ∙ sym (get-remove nat_cmp_total (lines es) a q ∙ rw (turned q a, get-lines es q) refl))

  -- a key that differs from all is in none
  pub unseen : (k : ℕ) (es : List (ℕ × X)) → AllByRecursion (λ y. nat_eq k y ≡ false) (keys_of es) → lookup (nat_eq k) es ≡ None
  unseen k [] h = refl
  unseen k (e ∷ es) h = rw (h.0) (unseen k es h.1)

  pub len-lines : (es : List (ℕ × X)) → IsDistinct nat_eq (keys_of es) → map.len (lines es) ≡ length es
  unfolding IsDistinct
  len-lines [] d = len-empty nat_cmp X
  len-lines (e ∷ es) d =
      let new : map.contains_key (lines es) e.0 ≡ false = ap is_some (get-lines es e.0 ∙ unseen e.0 es d.0) in
      len-insert nat_cmp_total (lines es) e.0 e.1 ∙ rw (new, len-lines es d.1) (add-one (length es))
