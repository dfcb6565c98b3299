-- Lines, each with its line feed, and how far a text goes on as its grammar says.
use Rattle.std.specs.Prelude.{◌≡◌, ℕ, ◌-◌, ◌≤◌, ◌==◌, false, All, List, [], ◌∷◌, ◌++◌, length, take}
use Rattle.std.specs.List.{flat_map}

-- it has no line feed
abbrev pub IsOneLine : List ℕ → Type 0
IsOneLine line = All (λ b. (b == 10) ≡ false) line

-- the bytes of lines, each with its line feed
abbrev pub text_of : List (List ℕ) → List ℕ
text_of lines = flat_map (λ line. line ++ 10 ∷ []) lines

-- A grammar says which lists of lines are its texts.

-- the bytes are a text
abbrev pub IsText : (List (List ℕ) → Type 0) → List ℕ → Type 0
IsText Grammar bytes = (lines : List (List ℕ)) × (Grammar lines × (bytes ≡ text_of lines))

-- the bytes begin with the first k lines of a text
pub record BeginsText (Grammar : List (List ℕ) → Type 0) (bytes : List ℕ) (k : ℕ) : Type 0 where
  pub lines : List (List ℕ)
  pub of_text : Grammar lines
  pub enough : k ≤ length lines
  pub rest : List ℕ
  pub begins : bytes ≡ text_of (take k lines) ++ rest

-- Line k, counted from 1, is the first that isn't as the grammar says, or that is missing: the lines before
-- it begin a text, those up to it don't, and the bytes aren't a text that ends before it.
pub record IsFirstWrong (Grammar : List (List ℕ) → Type 0) (bytes : List ℕ) (k : ℕ) : Type 0 where
  pub counted : 1 ≤ k
  pub before : BeginsText Grammar bytes (k - 1)
  pub wrong : BeginsText Grammar bytes k → ⊥
  pub no_text : IsText Grammar bytes → ⊥
