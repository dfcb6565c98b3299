-- Places of lists.
use Rattle.std.specs.Prelude.{◌≡◌, ℕ, zero, suc, ◌<◌, List, [], ◌∷◌, ◌++◌, refl, Option, Some, length, slice_get}
use Rattle.std.proofs.Common.{sym, subst, inl, inr, arith}
use Rattle.std.proofs.lemmas.Bool.{cases_eq}

pub one : {X : Type 0} (o : Option X) (a b : X) → o ≡ Some a → o ≡ Some b → a ≡ b
one o a b p q = cc

pub there : {X : Type 0} (xs : List X) (n : ℕ) → n < length xs → (x : X) × (slice_get xs n ≡ Some x)
there [] n l = absurd (omega arith)
there (x ∷ xs) zero l = (x, refl)
there (x ∷ xs) (suc n) l = there xs n (omega arith)

pub get_left : {X : Type 0} (xs ys : List X) (i : ℕ) → i < length xs → slice_get (xs ++ ys) i ≡ slice_get xs i
get_left [] ys i l = absurd (omega arith)
get_left (x ∷ xs) ys zero l = refl
get_left (x ∷ xs) ys (suc i) l = get_left xs ys i (omega arith)

pub get_last : {X : Type 0} (xs : List X) (x : X) → slice_get (xs ++ x ∷ []) (length xs) ≡ Some x
get_last [] x = refl
get_last (y ∷ ys) x = get_last ys x

-- what holds of one item and of all others holds of each
pub each_by : {X : Type 0} (P : ℕ → X → Type 0) (xs : List X) (n : ℕ) (x : X) → slice_get xs n ≡ Some x → P n x
    → ((k : ℕ) (y : X) → (k ≡ n → ⊥) → slice_get xs k ≡ Some y → P k y) → (k : ℕ) (y : X) → slice_get xs k ≡ Some y → P k y
each_by {X} P xs n x is here others k y h = elim (cases_eq k n) [
  | inl q ↦ (let same : x ≡ y = one (slice_get xs n) x y is (subst (λ j. slice_get xs j ≡ Some y) q h) in rw (q, sym same) here)
  | inr q ↦ others k y q h
]

-- what holds of the last item and of those before it holds of each
pub each_push : {X : Type 0} (P : ℕ → X → Type 0) (xs : List X) (x : X) → P (length xs) x → ((k : ℕ) (y : X) → k < length xs → slice_get xs k ≡ Some y → P k y)
    → (k : ℕ) (y : X) → slice_get (xs ++ x ∷ []) k ≡ Some y → P k y
each_push P [] x last others zero y h = let same : x ≡ y = cc in subst (P 0) same last
each_push P [] x last others (suc k) y h = absurd cc
each_push P (z ∷ xs) x last others zero y h = others 0 y (omega arith) h
each_push P (z ∷ xs) x last others (suc k) y h = each_push (λ j. P (suc j)) xs x last (λ j w l. others (suc j) w (omega arith)) k y h
