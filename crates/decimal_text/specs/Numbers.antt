-- A number as text, and as 64 bits keep it.
use Rattle.std.specs.Prelude.{◌≡◌, ℕ, ◌+◌, ◌≤◌, ◌^◌, ◌==◌, nat_lt, if◌then◌else◌, List, ◌++◌, map, codes, Option, Some, None}
use Rattle.std.specs.Int.Digits.{digits_of}

-- a number of any size in decimal: `0`, or digits, the first of them not 0
unfoldable pub numeral : ℕ → List ℕ
numeral n = if n == 0 then codes "0" else map (λ digit. 48 + digit) (digits_of 10 n)

-- the number, or none if 64 bits don't hold it
abbrev pub as_u64 : ℕ → Option ℕ
as_u64 n = if nat_lt n (2 ^ 64) then Some n else None

-- the bytes are the number's text and then the rest, and they begin with the text of no greater number
pub record StandsInFront (n : ℕ) (bytes rest : List ℕ) : Type 0 where
  pub text : bytes ≡ numeral n ++ rest
  pub longest : (m : ℕ) (others : List ℕ) → bytes ≡ numeral m ++ others → m ≤ n
