-- Reading a line from left to right, as functions on its bytes: None where what is looked for isn't there. Private
-- contracts cite these; the public ones speak of the texts alone.
use Rattle.std.specs.Prelude.{ℕ, ◌*◌, ◌+◌, ◌^◌, Bool, true, false, ◌==◌, ◌&&◌, not, nat_lt, if◌then◌else◌, List, [], ◌∷◌, Option, None, Some, is_some, codes}
use Rattle.decimal_text.specs.Reading.{◌>>=◌, after}
use Rattle.mem_op.specs.Consistency.{Operation, Loaded, Stored, Swapped}
use Rattle.trace.specs.declared.line.TraceLine.{TraceLine}
use Rattle.trace.specs.declared.line.TraceLine.TheVariants.{Nothing, Performs}
use Rattle.trace.specs.Grammar.{is_blank, digit_value, is_alphanumeric}

-- the bytes after the blanks at the front
abbrev pub skip : List ℕ → List ℕ
skip [] = []
skip (b ∷ bs) = if is_blank b then skip bs else b ∷ bs

-- a mark, perhaps with blanks before it
unfoldable pub mark_at : List ℕ → List ℕ → Option (List ℕ)
mark_at mark bytes = after mark (skip bytes)

-- the number that comes of writing the digits of this base at the front after this number, and the bytes after them
abbrev pub onward : ℕ → ℕ → List ℕ → ℕ × List ℕ
onward base n [] = (n, [])
onward base n (b ∷ bs) = if nat_lt (digit_value b) base then onward base (n * base + digit_value b) bs else (n, b ∷ bs)

abbrev pub goes_on : List ℕ → Bool
goes_on [] = false
goes_on (b ∷ bs) = is_alphanumeric b

-- a number of 64 bits that ends there
abbrev pub fitting : ℕ × List ℕ → Option (ℕ × List ℕ)
fitting x = if nat_lt x.0 (2 ^ 64) && not (goes_on x.1) then Some x else None

unfoldable pub digits_at : ℕ → List ℕ → Option (ℕ × List ℕ)
digits_at base [] = None
digits_at base (b ∷ bs) = if nat_lt (digit_value b) base then fitting (onward base 0 (b ∷ bs)) else None

-- a number, perhaps with blanks before it
unfoldable pub number_at : List ℕ → Option (ℕ × List ℕ)
number_at bytes =
    if is_some (after (codes "0x") (skip bytes)) then (after (codes "0x") (skip bytes) >>= digits_at 16) else digits_at 10 (skip bytes)

-- `M[A]`
unfoldable pub cell_at : List ℕ → Option (ℕ × List ℕ)
cell_at bytes =
    mark_at (codes "M") bytes >>= λ m. mark_at (codes "[") m >>= λ bracket. number_at bracket >>= λ addr. mark_at (codes "]") addr.1 >>= λ rest. Some (addr.0, rest)

-- `== V` or `:= V`
unfoldable pub word_at : List ℕ → List ℕ → Option (ℕ × List ℕ)
word_at sign bytes = mark_at sign bytes >>= number_at

-- `M[A] == V` or `M[A] := V`
unfoldable pub access_at : List ℕ → Option (Operation × List ℕ)
access_at bytes =
    cell_at bytes >>= λ addr.
    if is_some (mark_at (codes "==") addr.1)
    then (word_at (codes "==") addr.1 >>= λ word. Some (Loaded addr.0 word.0, word.1))
    else (word_at (codes ":=") addr.1 >>= λ word. Some (Stored addr.0 word.0, word.1))

-- `M[A] == V; M[A] := W }`
unfoldable pub swap_at : List ℕ → Option (Operation × List ℕ)
swap_at bytes =
    cell_at bytes >>= λ addr. word_at (codes "==") addr.1 >>= λ read. mark_at (codes ";") read.1 >>= λ next.
    cell_at next >>= λ again. word_at (codes ":=") again.1 >>= λ stored. mark_at (codes "}") stored.1 >>= λ rest.
    if addr.0 == again.0 then Some (Swapped addr.0 read.0 stored.0, rest) else None

-- an operation
unfoldable pub operation_at_front : List ℕ → Option (Operation × List ℕ)
operation_at_front bytes = if is_some (mark_at (codes "{") bytes) then (mark_at (codes "{") bytes >>= swap_at) else access_at bytes

-- nothing more is said
abbrev pub is_nothing : List ℕ → Bool
is_nothing [] = true
is_nothing (b ∷ bs) = b == 35

unfoldable pub is_over : List ℕ → Bool
is_over bytes = is_nothing (skip bytes)

-- the bytes after a time, or all if there is none
abbrev pub rest_or : List ℕ → Option (ℕ × List ℕ) → List ℕ
rest_or bytes None = bytes
rest_or bytes (Some time) = time.1

unfoldable pub after_time : List ℕ → List ℕ
after_time bytes = rest_or bytes (number_at bytes)

-- `b:e` after its mark, and nothing more
abbrev pub ends_at : Option (List ℕ) → Bool
ends_at None = false
ends_at (Some end) = is_over (after_time end)

abbrev pub are_times : Option (List ℕ) → Bool
are_times None = false
are_times (Some begin) = ends_at (mark_at (codes ":") (after_time begin))

-- the line ends there, with times at most
unfoldable pub is_ended : List ℕ → Bool
is_ended bytes = if is_over bytes then true else are_times (mark_at (codes "@") bytes)

-- what is said of a core
unfoldable pub said_of : ℕ → List ℕ → Option TraceLine
said_of core bytes =
    if is_some (mark_at (codes "sync") bytes)
    then (mark_at (codes "sync") bytes >>= λ rest. if is_ended rest then Some Nothing else None)
    else (operation_at_front bytes >>= λ x. if is_ended x.1 then Some (Performs core x.0) else None)

-- `T:`
unfoldable pub core_at : List ℕ → Option (ℕ × List ℕ)
core_at bytes = number_at bytes >>= λ core. mark_at (codes ":") core.1 >>= λ rest. if nat_lt core.0 64 then Some (core.0, rest) else None

-- what a line says
unfoldable pub line_of : List ℕ → Option TraceLine
line_of line = if is_over line then Some Nothing else (core_at line >>= λ core. said_of core.0 core.1)
