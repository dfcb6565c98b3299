-- Items of a list that are replaced.
use Rattle.std.proofs.Common.{◌≡◌, ℕ, zero, suc, ◌<◌, ◌≤◌, List, length, get_or, [], ◌∷◌, inl, inr, refl, sym, ap, ◌∙◌}
use Rattle.std.specs.Prelude.{◌⊎◌, Some, None, option_map, map, slice_get, slice_set}
use Rattle.std.specs.Option.{option_map_or}
use Rattle.std.proofs.lemmas.List.{map-set}
use Rattle.std.proofs.lemmas.Option.{slice_get-get_or, slice_get-map, slice_get_past}

-- what stands there, put there again, changes nothing
pub set_again : {X : Type 0} (xs : List X) (i : ℕ) (x : X) → slice_get xs i ≡ Some x → slice_set xs i x ≡ xs
set_again [] i x e = refl
set_again (y ∷ ys) zero x e = (let same : x ≡ y = cc in ap (λ z. z ∷ ys) same)
set_again (y ∷ ys) (suc i) x e = ap (λ zs. y ∷ zs) (set_again ys i x e)

-- what is found is the new item, or an old one
pub found_in_set : {X : Type 0} (xs : List X) (i : ℕ) (x : X) (j : ℕ) (y : X) → slice_get (slice_set xs i x) j ≡ Some y
    → ((j ≡ i) × (y ≡ x)) ⊎ (slice_get xs j ≡ Some y)
found_in_set [] i x j y e = inr e
found_in_set (z ∷ zs) zero x zero y e = inl (refl, cc)
found_in_set (z ∷ zs) zero x (suc j) y e = inr e
found_in_set (z ∷ zs) (suc i) x zero y e = inr e
found_in_set (z ∷ zs) (suc i) x (suc j) y e =
    elim (found_in_set zs i x j y e) [ inl same ↦ inl (ap suc same.0, same.1) | inr old ↦ inr old ]

pub found_in_map : {A B : Type 0} (f : A → B) (xs : List A) (i : ℕ) (x : A) → slice_get xs i ≡ Some x → slice_get (map f xs) i ≡ Some (f x)
found_in_map f xs i x e = slice_get-map f xs i ∙ ap (λ o. option_map f o) e

pub none_in_map : {A B : Type 0} (f : A → B) (xs : List A) (i : ℕ) → slice_get xs i ≡ None → slice_get (map f xs) i ≡ None
none_in_map f xs i e = slice_get-map f xs i ∙ ap (λ o. option_map f o) e

-- what a look-up at an index finds
pub stands : {X : Type 0} (xs : List X) (i j : ℕ) (x : X) → j ≡ i → j < length xs → x ≡ get_or xs j x → slice_get xs i ≡ Some x
stands xs i j x same below e = ap (slice_get xs) (sym same) ∙ slice_get-get_or xs j x below ∙ ap (λ y. Some y) (sym e)

pub stands_none : {X : Type 0} (xs : List X) (i j : ℕ) → j ≡ i → length xs ≤ j → slice_get xs i ≡ None
stands_none xs i j same past = ap (slice_get xs) (sym same) ∙ slice_get_past xs j past

-- an item put instead of another that agrees with it here
pub map-set_same : {A B : Type 0} (f : A → B) (xs : List A) (i : ℕ) (x t : A) → slice_get xs i ≡ Some x → f t ≡ f x → map f (slice_set xs i t) ≡ map f xs
map-set_same f xs i x t there same =
    map-set f xs i t ∙ ap (slice_set (map f xs) i) same ∙ set_again (map f xs) i (f x) (found_in_map f xs i x there)

pub set_here : {X : Type 0} (xs : List X) (i : ℕ) (u v : X) → slice_get xs i ≡ Some u → slice_get (slice_set xs i v) i ≡ Some v
set_here [] i u v e = absurd (cc)
set_here (x ∷ xs) zero u v e = refl
set_here (x ∷ xs) (suc i) u v e = set_here xs i u v e

-- what doesn't differ between the old item and the new one stays everywhere
pub stays_in_set : {X A : Type 0} (f : X → A) (d : A) (xs : List X) (i j : ℕ) (u v : X) → slice_get xs i ≡ Some u → f v ≡ f u
    → option_map_or f (slice_get (slice_set xs i v) j) d ≡ option_map_or f (slice_get xs j) d
stays_in_set f d [] i j u v e same = refl
stays_in_set f d (x ∷ xs) zero zero u v e same = let is : x ≡ u = cc in same ∙ ap f (sym is)
stays_in_set f d (x ∷ xs) zero (suc j) u v e same = refl
stays_in_set f d (x ∷ xs) (suc i) zero u v e same = refl
stays_in_set f d (x ∷ xs) (suc i) (suc j) u v e same = stays_in_set f d xs i j u v e same
