-- The first element that passes a test.
use Rattle.std.proofs.Common.{◌≡◌, ◌∙◌, ap, sym, refl, ℕ, ◌+◌, ◌<◌, ◌≤◌, Bool, true, false, cond, List, [], ◌∷◌, length, drop, get_or, None, Some}
use Rattle.std.specs.Prelude.{find, filter, slice_get}
use Rattle.std.proofs.lemmas.List.{drop_more, drop_all}
use Rattle.std.proofs.lemmas.Option.{slice_get_read}

find_step : {X : Type 0} (p : X → Bool) (xs : List X) (k : ℕ) (x : X) → k < length xs → x ≡ get_or xs k x → find p (drop k xs) ≡ cond (p x) (Some x) (find p (drop (k + 1) xs))
find_step p xs k x l at = ap (find p) (drop_more xs k x l ∙ ap (λ z. z ∷ drop (k + 1) xs) (sym at))

-- it is here
pub found_here : {X : Type 0} (p : X → Bool) (xs : List X) (k : ℕ) (x : X) → find p (drop k xs) ≡ find p xs → k < length xs → x ≡ get_or xs k x → p x ≡ true → slice_get xs k ≡ find p xs
found_here p xs k x so_far l at passes =
    slice_get_read xs (length xs) k x refl l at ∙ sym (sym so_far ∙ find_step p xs k x l at ∙ ap (λ b. cond b (Some x) (find p (drop (k + 1) xs))) passes)

-- or nowhere
pub nowhere : {X : Type 0} (p : X → Bool) (xs : List X) (k : ℕ) → find p (drop k xs) ≡ find p xs → length xs ≤ k → find p xs ≡ None
nowhere p xs k so_far past = sym so_far ∙ ap (find p) (drop_all k xs past)

-- what is left of a list by a test that it passes has it first too
pub find_filtered : {X : Type 0} (p q : X → Bool) (xs : List X) (x : X) → find p xs ≡ Some x → q x ≡ true → find p (filter q xs) ≡ Some x
find_filtered p q [] x found passes = found
find_filtered {X} p q (y ∷ xs) x found passes = go (p y) refl (q y) refl found (find_filtered p q xs x)
  where
    go : (b : Bool) → p y ≡ b → (c : Bool) → q y ≡ c → cond b (Some y) (find p xs) ≡ Some x → (find p xs ≡ Some x → q x ≡ true → find p (filter q xs) ≡ Some x)
        → find p (cond c (y ∷ filter q xs) (filter q xs)) ≡ Some x
    go true is true keeps f rest = rw is f
    go true is false drops f rest = let same : y ≡ x = cc in absurd (let wrong : q y ≡ true = ap q same ∙ passes in cc)
    go false is true keeps f rest = rw is (rest f passes)
    go false is false drops f rest = rest f passes
