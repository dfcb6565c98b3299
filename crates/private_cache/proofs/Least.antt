-- The least address of an Exclusive line, found by one walk over the entries.
use Rattle.std.proofs.Common.{◌≡◌, ℕ, ◌≤◌, min, true, false, not, cond, ◌⊎◌, nat_eq, List, [], ◌∷◌, Option, Some, None, refl, sym, ap, ◌∙◌, inl, inr, arith}
use Rattle.std.specs.List.{IsDistinct}
use Rattle.std.specs.Map.{keys_of, lookup}
use Rattle.std.proofs.lemmas.Bool.Decides.{eqb_tells}
use Rattle.private_cache.specs.declared.held.Held.{Held}
use Rattle.private_cache.specs.Table.{is_shared}
use Rattle.private_cache.specs.Steps.{is_exclusive, IsLeastExclusive}
use Rattle.private_cache.proofs.Lines.{get-lines, unseen}
use Rattle.lru.specs.LruCache.{LruCache}
use Rattle.private_cache.proofs.Shown.{shown, IsApart}

-- the lesser of what was found and a new address
abbrev pub with_next : Option ℕ → ℕ → Option ℕ
with_next None a = Some a
with_next (Some b) a = Some (min b a)

-- the walk, from what was found
abbrev pub walk : Option ℕ → List (ℕ × Held) → Option ℕ
walk o [] = o
walk o (e ∷ es) = walk (cond (is_shared e.1) o (with_next o e.0)) es

abbrev IsAtMost : Option ℕ → ℕ → Type 0
IsAtMost None a = ⊥
IsAtMost (Some b) a = b ≤ a

next_at_most : (o : Option ℕ) (a b : ℕ) → IsAtMost o b → IsAtMost (with_next o a) b
next_at_most None a b h = absurd h
next_at_most (Some c) a b h = omega (arith, h)

next_at_least : (o : Option ℕ) (a : ℕ) → IsAtMost (with_next o a) a
next_at_least None a = omega arith
next_at_least (Some c) a = omega arith

stays_at_most : (es : List (ℕ × Held)) (o : Option ℕ) (b : ℕ) → IsAtMost o b → IsAtMost (walk o es) b
stays_at_most [] o b h = h
stays_at_most (e ∷ es) o b h = stays_at_most es _ b (elim (is_shared e.1) as (λ y. IsAtMost (cond y o (with_next o e.0)) b) [
  | true ↦ h
  | false ↦ next_at_most o e.0 b h
])

-- no Exclusive line is before what the walk finds
at_most : (es : List (ℕ × Held)) (o : Option ℕ) (a : ℕ) → is_exclusive (lookup (nat_eq a) es) ≡ true → IsAtMost (walk o es) a
at_most [] o a h = absurd cc
at_most (e ∷ es) o a h = elim (eqb_tells a e.0) [
  | inl i ↦
      let own : not (is_shared e.1) ≡ true = rw i.0 at h in
      stays_at_most es _ a ((elim (is_shared e.1) as (λ y. is_shared e.1 ≡ y → IsAtMost (cond y o (with_next o e.0)) a) [
        | true ↦ λ t. let bad = rw t at own in absurd cc
        | false ↦ λ t. rw i.1 (next_at_least o e.0)
      ]) refl)
  | inr i ↦ at_most es _ a (rw i.0 at h)
]

-- an Exclusive line after the first entry is one of the whole list
passes : (e : ℕ × Held) (es : List (ℕ × Held)) (b : ℕ) → IsDistinct nat_eq (keys_of (e ∷ es)) → is_exclusive (lookup (nat_eq b) es) ≡ true → is_exclusive (lookup (nat_eq b) (e ∷ es)) ≡ true
unfolding IsDistinct
passes e es b d h = elim (eqb_tells b e.0) [
  | inl i ↦
      let none : lookup (nat_eq b) es ≡ None = rw i.1 (unseen e.0 es d.0) in
      let bad : false ≡ true = sym (ap is_exclusive none) ∙ h in absurd cc
  | inr i ↦ rw i.0 h
]

first_passes : (e : ℕ × Held) (es : List (ℕ × Held)) (b : ℕ) → is_shared e.1 ≡ false → b ≡ e.0 → is_exclusive (lookup (nat_eq b) (e ∷ es)) ≡ true
first_passes e es b own same = let here : nat_eq b e.0 ≡ true = grind arith in rw (here, own) refl

next_is : (o : Option ℕ) (a b : ℕ) → with_next o a ≡ Some b → (o ≡ Some b) ⊎ (b ≡ a)
next_is None a b h = let same : a ≡ b = cc in inr (sym same)
next_is (Some c) a b h = let same : min c a ≡ b = cc in lesser_is c a b same
  where
    lesser_is : (c a b : ℕ) → min c a ≡ b → ◌⊎◌ (◌≡◌ {A = Option ℕ} (Some c) (Some b)) (b ≡ a)
    lesser_is c a b h = grind arith

-- what the walk finds was found before, or is the address of an Exclusive line
found : (es : List (ℕ × Held)) (o : Option ℕ) (b : ℕ) → IsDistinct nat_eq (keys_of es) → walk o es ≡ Some b → (o ≡ Some b) ⊎ (is_exclusive (lookup (nat_eq b) es) ≡ true)
unfolding IsDistinct
found [] o b d h = inl h
found (e ∷ es) o b d h = (elim (is_shared e.1) as (λ y. is_shared e.1 ≡ y → walk (cond y o (with_next o e.0)) es ≡ Some b → (o ≡ Some b) ⊎ (is_exclusive (lookup (nat_eq b) (e ∷ es)) ≡ true)) [
  | true ↦ λ t w. elim (found es o b d.1 w) [ inl i ↦ inl i | inr i ↦ inr (passes e es b d i) ]
  | false ↦ λ t w. elim (found es (with_next o e.0) b d.1 w) [
    | inl i ↦ elim (next_is o e.0 b i) [ inl j ↦ inl j | inr j ↦ inr (first_passes e es b t j) ]
    | inr i ↦ inr (passes e es b d i)
  ]
]) refl h

none_found : (es : List (ℕ × Held)) → walk None es ≡ None → (a : ℕ) → is_exclusive (lookup (nat_eq a) es) ≡ false
none_found es h a = (elim (is_exclusive (lookup (nat_eq a) es)) as (λ y. is_exclusive (lookup (nat_eq a) es) ≡ y → y ≡ false) [
  | true ↦ λ t. absurd (rw h at (at_most es None a t))
  | false ↦ λ t. refl
]) refl

pub least_exclusive : (c : LruCache ℕ Held) → IsApart c → IsLeastExclusive (shown c) (walk None c.entries)
least_exclusive c d = (elim (walk None c.entries) as (λ o. walk None c.entries ≡ o → IsLeastExclusive (shown c) o) [
  | None ↦ λ w a. rw (get-lines c.entries a) (none_found c.entries w a)
  | Some b ↦ λ w. (
    rw (get-lines c.entries b) (elim (found c.entries None b d w) [ inl i ↦ absurd cc | inr i ↦ i ]),
    λ a h. rw w at (at_most c.entries None a (rw (get-lines c.entries a) at h)),
  )
]) refl
