-- Words, each with a space before it.
use Rattle.std.specs.Prelude.{ℕ, ◌^◌, ◌==◌, if◌then◌else◌, Bool, true, List, [], ◌∷◌, Option, Some, None, codes}
use Rattle.std.specs.List.{flat_map}
use Rattle.decimal_text.specs.Reading.{◌>>=◌, after, number_at}
use Rattle.text_lines.specs.Fields.{below}

abbrev pub spaced : {A : Type 0} → (A → List ℕ) → List A → List ℕ
spaced word xs = flat_map (λ x. 32 ∷ word x) xs

-- no word goes on with these bytes
abbrev pub ends_word : List ℕ → Bool
ends_word [] = true
ends_word (b ∷ bs) = b == 32

-- what was read, if the word ends there
abbrev pub at_end : {A : Type 0} → A → List ℕ → Option (A × List ℕ)
at_end x rest = if ends_word rest then Some (x, rest) else None

-- a space and then a number of 64 bits, and the bytes after them
unfoldable pub spaced_number : List ℕ → Option (ℕ × List ℕ)
spaced_number bytes = after (codes " ") bytes >>= number_at >>= λ n. below (2 ^ 64) n.0 >>= λ number. at_end number n.1
