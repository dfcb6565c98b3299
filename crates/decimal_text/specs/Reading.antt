-- Reading bytes from left to right, as functions on them: None where what is looked for isn't there.
use Rattle.std.specs.Prelude.{ℕ, ◌+◌, ◌-◌, ◌*◌, Bool, ◌&&◌, ◌==◌, nat_le, if◌then◌else◌, List, [], ◌∷◌, length, Option, Some, None}
use denote.Ref.{Bor}

infixl 10 ◌>>=◌
abbrev pub ◌>>=◌ : {A B : Type 0} → Option A → (A → Option B) → Option B
None >>= f = None
(Some x) >>= f = f x

-- what was read, if no bytes are left after it
abbrev pub whole : {A : Type 0} → Option (A × List ℕ) → Option A
whole None = None
whole (Some x) = if length x.1 == 0 then Some x.0 else None

-- ---- numbers

abbrev pub is_digit : ℕ → Bool
is_digit b = nat_le 48 b && nat_le b 57

-- the number that comes of writing the digits at the front after this number, and the bytes after them
abbrev pub onward : ℕ → List ℕ → ℕ × List ℕ
onward n [] = (n, [])
onward n (b ∷ bs) = if is_digit b then onward (n * 10 + (b - 48)) bs else (n, b ∷ bs)

-- The number at the front, and the bytes after it. After a 0 no further digit is part of the number.
unfoldable pub number_at : List ℕ → Option (ℕ × List ℕ)
number_at [] = None
number_at (b ∷ bs) = if b == 48 then Some (0, bs) else (if is_digit b then Some (onward (b - 48) bs) else None)

-- the bytes after a text
unfoldable pub after : List ℕ → List ℕ → Option (List ℕ)
after [] bytes = Some bytes
after (t ∷ ts) [] = None
after (t ∷ ts) (b ∷ bs) = if b == t then after ts bs else None

-- a number with a byte after it
unfoldable pub field_at : ℕ → List ℕ → Option (ℕ × List ℕ)
field_at c bytes = number_at bytes >>= λ n. after (c ∷ []) n.1 >>= λ rest. Some (n.0, rest)

-- a number that is all there is
unfoldable pub last_number : List ℕ → Option ℕ
last_number bytes = whole (number_at bytes)

-- ---- what the code keeps of them

-- a value and the bytes after it
abbrev pub front_now : {A : Type 0} → Option (A × Bor (List ℕ)) → Option (A × List ℕ)
front_now None = None
front_now (Some x) = Some (x.0, x.1.now)

-- what the code keeps of a value, and the bytes after it
abbrev pub front_map : {A B : Type 0} → (A → B) → Option (A × List ℕ) → Option (B × List ℕ)
front_map f None = None
front_map f (Some x) = Some (f x.0, x.1)
