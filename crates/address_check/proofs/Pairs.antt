-- Elements of lists by place and by membership, and a relation of each to each later one.
use Rattle.std.proofs.Common.{◌≡◌, ℕ, suc, ◌<◌, Bool, Option, List, [], ◌∷◌, length, AllPairs, sym, ◌∙◌, subst, inl, inr, arith, get_or, filter, filter_map}
use Rattle.line_stamps.specs.Ordered.{In, EachPair}
use Rattle.line_stamps.proofs.Ordered.{In-filter, In-filtered, In-filter_map, filter_map-In, place_of}

pub EachPair-from_all : {X : Type 0} (R : X → X → Type 0) (xs : List X) → AllPairs R xs → EachPair R xs
EachPair-from_all R [] h = tt
EachPair-from_all {X} R (x ∷ xs) h = (first, EachPair-from_all R xs (λ i j d p q. h (suc i) (suc j) d (omega arith) (omega arith)))
  where
    first : (y : X) → In y xs → R x y
    first y p = let t = place_of y xs p in subst (R x) (t.2 x) (h 0 (suc t.0) x (omega arith) (let below : t.0 < length xs = t.1 in omega arith))

pub EachPair-weaken : {X : Type 0} (R S : X → X → Type 0) (xs : List X) → ((x y : X) → R x y → S x y) → EachPair R xs → EachPair S xs
EachPair-weaken R S [] f h = tt
EachPair-weaken R S (x ∷ xs) f h = (λ y p. f x y (h.0 y p), EachPair-weaken R S xs f h.1)

-- what passes in a list passes in one that has its elements
pub filter-within : {X : Type 0} (p : X → Bool) (xs ys : List X) → ((x : X) → In x xs → In x ys) → (x : X) → In x (filter p xs) → In x (filter p ys)
filter-within p xs ys within x h = let t = In-filter p xs x h in In-filtered p ys x (within x t.0) t.1

pub filter_map-within : {X Y : Type 0} (f g : X → Option Y) (xs ys : List X) → ((x : X) → f x ≡ g x) → ((x : X) → In x xs → In x ys) → (y : Y) → In y (filter_map f xs) → In y (filter_map g ys)
filter_map-within f g xs ys same within y h = let t = filter_map-In f xs y h in In-filter_map g ys t.0 y (within t.0 t.1) (sym (same t.0) ∙ t.2)

-- two elements that are related neither way are one
pub one_of_unrelated : {X : Type 0} (R : X → X → Type 0) (xs : List X) (a b : X) → EachPair R xs → In a xs → In b xs → (R a b → ⊥) → (R b a → ⊥) → a ≡ b
one_of_unrelated R [] a b h p q m n = absurd p
one_of_unrelated R (x ∷ xs) a b h (inl p) (inl q) m n = sym p ∙ q
one_of_unrelated R (x ∷ xs) a b h (inl p) (inr q) m n = absurd (m (subst (λ w. R w b) p (h.0 b q)))
one_of_unrelated R (x ∷ xs) a b h (inr p) (inl q) m n = absurd (n (subst (λ w. R w a) q (h.0 a p)))
one_of_unrelated R (x ∷ xs) a b h (inr p) (inr q) m n = one_of_unrelated R xs a b h.1 p q m n
