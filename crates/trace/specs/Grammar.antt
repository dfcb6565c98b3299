-- The text of a line of a trace.
use Rattle.std.specs.Prelude.{◌≡◌, ◌≢◌, ⊤, ℕ, ◌+◌, ◌-◌, ◌*◌, ◌<◌, ◌^◌, ◌⊎◌, Bool, true, false, ◌==◌, ◌&&◌, ◌||◌, nat_le, if◌then◌else◌, List, [], ◌∷◌, ◌++◌, Option, None, Some, codes, fold}
use Rattle.std.specs.List.{AllByRecursion}
use Rattle.mem_op.specs.Consistency.{Operation, Loaded, Stored, Swapped}
use Rattle.trace.specs.declared.line.TraceLine.{TraceLine}
use Rattle.trace.specs.declared.line.TraceLine.TheVariants.{Nothing, Performs}

-- a space or a tab
abbrev pub is_blank : ℕ → Bool
is_blank b = (b == 32) || (b == 9)

abbrev pub AreBlanks : List ℕ → Type 0
AreBlanks bytes = AllByRecursion (λ b. is_blank b ≡ true) bytes

-- ---- numbers

-- what a byte is as a digit: 0..9, or 10..15 for a letter; 16 if it is none
unfoldable pub digit_value : ℕ → ℕ
digit_value b =
    if nat_le 48 b && nat_le b 57 then b - 48
    else (if nat_le 65 b && nat_le b 70 then b - 55 else (if nat_le 97 b && nat_le b 102 then b - 87 else 16))

-- the number that comes of writing digits after this one
abbrev pub value_on : ℕ → ℕ → List ℕ → ℕ
value_on base n digits = fold (λ m b. m * base + digit_value b) n digits

-- one digit or more of a base, and their value
pub record AreDigits (base n : ℕ) (text : List ℕ) : Type 0 where
  pub some : text ≢ []
  pub digits : AllByRecursion (λ b. digit_value b < base) text
  pub value : n ≡ value_on base 0 text

-- a number's text: decimal digits, or hexadecimal ones after `0x`
abbrev pub IsNumeral : ℕ → List ℕ → Type 0
IsNumeral n text = AreDigits 10 n text ⊎ ((digits : List ℕ) × (text ≡ codes "0x" ++ digits) × AreDigits 16 n digits)

-- a digit or a letter
abbrev pub is_alphanumeric : ℕ → Bool
is_alphanumeric b = (nat_le 48 b && nat_le b 57) || ((nat_le 65 b && nat_le b 90) || (nat_le 97 b && nat_le b 122))

-- no digit or letter comes next
abbrev pub NoneGoesOn : List ℕ → Type 0
NoneGoesOn [] = ⊤
NoneGoesOn (b ∷ bs) = is_alphanumeric b ≡ false

-- ---- the parts of a line

-- a mark, or a number
pub data Part : Type 0 where
  Mark : (text : List ℕ) → Part
  Number : (value : ℕ) → Part

-- the text of a part, if the rest comes after it: a number has 64 bits, and goes on as far as digits and letters do
abbrev pub IsPartText : Part → List ℕ → List ℕ → Type 0
IsPartText (Mark mark) text rest = text ≡ mark
IsPartText (Number n) text rest = (n < 2 ^ 64) × IsNumeral n text × NoneGoesOn rest

-- the bytes begin with a part, perhaps with blanks before it
pub record IsAhead (part : Part) (bytes rest : List ℕ) : Type 0 where
  pub blanks : List ℕ
  pub blank : AreBlanks blanks
  pub text : List ℕ
  pub of_part : IsPartText part text rest
  pub bytes_are : bytes ≡ blanks ++ (text ++ rest)

-- the bytes begin with these parts, and the rest comes after them
abbrev pub AreAhead : List Part → List ℕ → List ℕ → Type 0
AreAhead [] bytes rest = bytes ≡ rest
AreAhead (part ∷ parts) bytes rest = (next : List ℕ) × IsAhead part bytes next × AreAhead parts next rest

-- nothing more is said: blanks, and then a comment at most
pub record IsOver (bytes : List ℕ) : Type 0 where
  pub blanks : List ℕ
  pub blank : AreBlanks blanks
  pub comment : List ℕ
  pub of_comment : (comment ≡ []) ⊎ ((words : List ℕ) × (comment ≡ codes "#" ++ words))
  pub bytes_are : bytes ≡ blanks ++ comment

-- ---- what lines say

-- `M[A]`
abbrev pub cell : ℕ → List Part → List Part
cell addr parts = Mark (codes "M") ∷ Mark (codes "[") ∷ Number addr ∷ Mark (codes "]") ∷ parts

-- `M[A] == V`, `M[A] := V` and `{ M[A] == V; M[A] := W }`
abbrev pub operation_parts : Operation → List Part
operation_parts (Loaded addr value) = cell addr (Mark (codes "==") ∷ Number value ∷ [])
operation_parts (Stored addr value) = cell addr (Mark (codes ":=") ∷ Number value ∷ [])
operation_parts (Swapped addr read stored) =
    Mark (codes "{") ∷ cell addr (Mark (codes "==") ∷ Number read ∷ Mark (codes ";") ∷ cell addr (Mark (codes ":=") ∷ Number stored ∷ Mark (codes "}") ∷ []))

-- `T:`
abbrev pub of_core : ℕ → List Part → List Part
of_core core parts = Number core ∷ Mark (codes ":") ∷ parts

-- a time, if there is one
abbrev pub time_parts : Option ℕ → List Part → List Part
time_parts None parts = parts
time_parts (Some time) parts = Number time ∷ parts

-- `@ b:e`, times at the end of a line, either of which may be missing
pub record AreTimes (bytes rest : List ℕ) : Type 0 where
  pub begin : Option ℕ
  pub end : Option ℕ
  pub times : AreAhead (Mark (codes "@") ∷ time_parts begin (Mark (codes ":") ∷ time_parts end [])) bytes rest

-- the bytes are these parts, after which times may come
pub record AreAll (parts : List Part) (bytes : List ℕ) : Type 0 where
  pub next : List ℕ
  pub parts_ahead : AreAhead parts bytes next
  pub end : IsOver next ⊎ ((rest : List ℕ) × AreTimes next rest × IsOver rest)

-- a fence of a core
abbrev pub IsFence : List ℕ → Type 0
IsFence line = (core : ℕ) × (core < 64) × AreAll (of_core core (Mark (codes "sync") ∷ [])) line

-- what a line says: nothing, as blanks, a comment and a fence do, or an operation of a core
abbrev pub IsLine : List ℕ → TraceLine → Type 0
IsLine line Nothing = IsOver line ⊎ IsFence line
IsLine line (Performs core operation) = (core < 64) × AreAll (of_core core (operation_parts operation)) line
