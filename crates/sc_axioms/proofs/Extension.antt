-- Arrows without a cycle extend to an order: ids can be listed so that no arrow leads back.
use Rattle.std.specs.Prelude.{◌≡◌, ◌≢◌, Bool, true, false, cond, ◌&&◌, ◌||◌, List, [], ◌∷◌, refl, ◌⊎◌}
use Rattle.std.specs.declared.cmp.Ordering.{Ordering}
use Rattle.std.specs.declared.cmp.Ordering.TheVariants.{Less, Equal}
use Rattle.std.specs.Ordering.{is_lt}
use Rattle.std.proofs.Common.{sym, ◌∙◌, subst, inl, inr}
use Rattle.std.proofs.lemmas.Bool.{and_from, and_parts, false_from_ne_true, or_cases, or_parts}
use Rattle.mem_op.specs.declared.id.OpId.{OpId}
use Rattle.line_stamps.specs.Ordered.{In, EachPair, insert_sorted}
use Rattle.line_stamps.proofs.Ordered.{In-insert, In-inserted}
use Rattle.sc_axioms.specs.Axioms.{Leads, one, more, IsAcyclic}

-- ---- paths

join : {arrow : OpId → OpId → Bool} {a b c : OpId} → Leads arrow a b → Leads arrow b c → Leads arrow a c
join (one h) q = more h q
join (more h p) q = more h (join p q)

-- the arrows, and those that an id joins
abbrev over : OpId → (OpId → OpId → Bool) → OpId → OpId → Bool
over x arrow a b = arrow a b || (arrow a x && arrow x b)

step : (arrow : OpId → OpId → Bool) (x a b : OpId) → over x arrow a b ≡ true → Leads arrow a b
step arrow x a b h = elim (or_cases (arrow a b) (arrow a x && arrow x b) h) [
  | inl direct ↦ one direct
  | inr joined ↦ (let p = and_parts (arrow a x) (arrow x b) joined in more p.0 (one p.1))
]

path : (arrow : OpId → OpId → Bool) (x : OpId) {a b : OpId} → Leads (over x arrow) a b → Leads arrow a b
path arrow x (one {a = a} {b = b} h) = step arrow x a b h
path arrow x (more {a = a} {b = b} h p) = join (step arrow x a b h) (path arrow x p)

-- ---- lists

-- an id goes in front of the first to which it has an arrow
abbrev by : (OpId → OpId → Bool) → OpId → OpId → Ordering
by arrow a b = cond (arrow a b) Less Equal

is_by : (t : Bool) → is_lt (cond t Less Equal) ≡ t
is_by true = refl
is_by false = refl

abbrev pub extension : (OpId → OpId → Bool) → List OpId → List OpId
extension arrow [] = []
extension arrow (x ∷ xs) = insert_sorted (by arrow) x (extension (over x arrow) xs)

pub In-extension : (arrow : OpId → OpId → Bool) (z : OpId) (xs : List OpId) → In z (extension arrow xs) → In z xs
In-extension arrow z [] h = h
In-extension arrow z (x ∷ xs) h = elim (In-insert (by arrow) z x (extension (over x arrow) xs) h) [ inl e ↦ inl e | inr p ↦ inr (In-extension (over x arrow) z xs p) ]

pub In-extended : (arrow : OpId → OpId → Bool) (z : OpId) (xs : List OpId) → In z xs → In z (extension arrow xs)
In-extended arrow z [] h = h
In-extended arrow z (x ∷ xs) (inl e) = In-inserted (by arrow) z x (extension (over x arrow) xs) (inl e)
In-extended arrow z (x ∷ xs) (inr p) = In-inserted (by arrow) z x (extension (over x arrow) xs) (inr (In-extended (over x arrow) z xs p))

-- another id, with no arrow back
abbrev pub InOrder : (OpId → OpId → Bool) → OpId → OpId → Type 0
InOrder arrow a b = (a ≢ b) × (arrow b a ≡ false)

without : (arrow : OpId → OpId → Bool) (x a b : OpId) → InOrder (over x arrow) a b → InOrder arrow a b
without arrow x a b h = (h.0, (or_parts (arrow b a) (arrow b x && arrow x a) h.1).0)

-- another relation of ids in order
pub weaken : (R S : OpId → OpId → Type 0) (xs : List OpId) → ((a b : OpId) → In a xs → In b xs → R a b → S a b) → EachPair R xs → EachPair S xs
weaken R S [] f h = tt
weaken R S (x ∷ xs) f h = (λ y p. f x y (inl refl) (inr p) (h.0 y p), weaken R S xs (λ a b p q. f a b (inr p) (inr q)) h.1)

module _ (arrow : OpId → OpId → Bool) (acyclic : IsAcyclic arrow) (x : OpId) where
  inserted : (ys : List OpId) → ((y : OpId) → In y ys → x ≢ y) → EachPair (InOrder (over x arrow)) ys → EachPair (InOrder arrow) (insert_sorted (by arrow) x ys)
  inserted [] other h = (λ y p. absurd p, tt)
  inserted (z ∷ zs) other h = go (arrow x z) refl (inserted zs (λ y p. other y (inr p)) h.1)
    where
      -- nothing from z on has an arrow to x, which has one to z
      back : arrow x z ≡ true → (y : OpId) → In y (z ∷ zs) → arrow y x ≡ true → ⊥
      back to y (inl e) from = acyclic x (more to (one (subst (λ (w : OpId). arrow w x ≡ true) (sym e) from)))
      back to y (inr p) from =
          let joined = and_from (arrow y x) (arrow x z) from to in
          let none = (or_parts (arrow y z) (arrow y x && arrow x z) (h.0 y p).1).1 in
          cc

      go : (t : Bool) → arrow x z ≡ t → EachPair (InOrder arrow) (insert_sorted (by arrow) x zs)
          → EachPair (InOrder arrow) (cond (is_lt (cond t Less Equal)) (x ∷ z ∷ zs) (z ∷ insert_sorted (by arrow) x zs))
      go true to later = (λ y p. (other y p, false_from_ne_true (arrow y x) (back to y p)), weaken (InOrder (over x arrow)) (InOrder arrow) (z ∷ zs) (λ a b p q. without arrow x a b) h)
      go false none later = (λ y p. first y (In-insert (by arrow) y x zs p), later)
        where
          first : (y : OpId) → (x ≡ y) ⊎ In y zs → InOrder arrow z y
          first y (inl e) = (λ same. other z (inl refl) (e ∙ sym same), subst (λ (w : OpId). arrow w z ≡ false) e none)
          first y (inr p) = without arrow x z y (h.0 y p)

pub extension-ordered : (arrow : OpId → OpId → Bool) → IsAcyclic arrow → (xs : List OpId) → EachPair ◌≢◌ xs → EachPair (InOrder arrow) (extension arrow xs)
extension-ordered arrow acyclic [] apart = tt
extension-ordered arrow acyclic (x ∷ xs) apart =
    inserted arrow acyclic x (extension (over x arrow) xs) (λ y p. apart.0 y (In-extension (over x arrow) y xs p))
    (extension-ordered (over x arrow) (λ id p. acyclic id (path arrow x p)) xs apart.1)
