-- Whether an outcome is among those that a test forbids, looked for one by one.
use Rattle.std.proofs.Common.{◌≡◌, ℕ, zero, suc, ◌+◌, ◌<◌, Bool, true, false, ◌||◌, List, [], ◌∷◌, length, take, get_or, refl, sym, ap, subst, ◌∙◌, arith}
use Rattle.std.specs.Global.{Vec}
use Rattle.std.specs.List.{list_any}
use Rattle.litmus.specs.inner.Ending.{word_lists}

pub any_found : (p : List ℕ → Bool) (vs : List (Vec ℕ)) (n : ℕ) (v : Vec ℕ) → n < length vs → v ≡ get_or vs n v → p v.items ≡ true → list_any p (word_lists vs) ≡ true
any_found p [] n v below is is-true = absurd (omega (arith, below))
any_found p (w ∷ vs) zero v below is is-true = let same : v ≡ w = is in rw (sym (ap (λ (x : Vec ℕ). x.items) same), is-true) refl
any_found p (w ∷ vs) (suc n) v below is is-true = go (p w.items) (any_found p vs n v (omega (arith, below)) is is-true)
  where
    go : (b : Bool) → list_any p (word_lists vs) ≡ true → (b || list_any p (word_lists vs)) ≡ true
    go true e = refl
    go false e = e

any_further : (p : List ℕ → Bool) (vs : List (Vec ℕ)) (n : ℕ) (v : Vec ℕ) → n < length vs → v ≡ get_or vs n v → list_any p (take n (word_lists vs)) ≡ false
    → p v.items ≡ false → list_any p (take (suc n) (word_lists vs)) ≡ false
any_further p [] n v below is none is-false = absurd (omega (arith, below))
any_further p (w ∷ vs) zero v below is none is-false = let same : v ≡ w = is in rw (sym (ap (λ (x : Vec ℕ). x.items) same), is-false) refl
any_further p (w ∷ vs) (suc n) v below is none is-false = go (p w.items) (λ e. any_further p vs n v (omega (arith, below)) is e is-false) none
  where
    go : (b : Bool) → (list_any p (take n (word_lists vs)) ≡ false → list_any p (take (suc n) (word_lists vs)) ≡ false)
        → (b || list_any p (take n (word_lists vs))) ≡ false → (b || list_any p (take (suc n) (word_lists vs))) ≡ false
    go true more e = absurd cc
    go false more e = more e

pub any_more : (p : List ℕ → Bool) (vs : List (Vec ℕ)) (n : ℕ) (v : Vec ℕ) → n < length vs → v ≡ get_or vs n v → list_any p (take n (word_lists vs)) ≡ false
    → p v.items ≡ false → list_any p (take (n + 1) (word_lists vs)) ≡ false
any_more p vs n v below is none is-false =
    let next : suc n ≡ n + 1 = omega arith in
    subst (λ (k : ℕ). list_any p (take k (word_lists vs)) ≡ false) next (any_further p vs n v below is none is-false)
