-- What holds of each element of a list.
use Rattle.std.proofs.Common.{ℕ, ◌≡◌, ◌+◌, ◌≤◌, ◌<◌, List, Some, length, get_or, inl, inr, refl, sym, subst, arith}
use Rattle.std.specs.Prelude.{slice_get}
use Rattle.std.proofs.lemmas.Bool.{cases_lt}
use Rattle.std.proofs.lemmas.Option.{slice_get_within, slice_get_read}

pub each_more : {A : Type 0} (xs : List A) (P : ℕ → A → Type 0) (k : ℕ) (x : A) → x ≡ get_or xs k x → k < length xs → ((s : ℕ) (v : A) → s < k → slice_get xs s ≡ Some v → P s v) → P k x → (s : ℕ) (v : A) → s < k + 1 → slice_get xs s ≡ Some v → P s v
each_more {A} xs P k x is lt below here s v le at = elim (cases_lt s k) [
  | inl less ↦ below s v less at
  | inr more ↦
      (let e : k ≡ s = omega arith in
      let Q : ℕ → Type 0 = λ n. slice_get xs n ≡ Some v in
      let at_k : slice_get xs k ≡ Some v = subst Q (sym e) at in
      let same : x ≡ v = let read = slice_get_read xs (length xs) k x refl lt is in cc in
      let R : ℕ → Type 0 = λ n. P n v in
      let S : A → Type 0 = λ y. P k y in
      subst R e (subst S same here))
]

pub each_all : {A : Type 0} (xs : List A) (P : ℕ → A → Type 0) (k : ℕ) → length xs ≤ k → ((s : ℕ) (v : A) → s < k → slice_get xs s ≡ Some v → P s v) → (s : ℕ) (v : A) → slice_get xs s ≡ Some v → P s v
each_all xs P k le below s v at = let lt = slice_get_within xs s v at in below s v (omega arith) at
