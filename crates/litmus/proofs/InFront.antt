-- What stands at the front of bytes, or doesn't, by their first line.
use Rattle.std.proofs.Common.{◌≡◌, ℕ, List, ◌∷◌, ◌++◌, ap, ◌∙◌}
use Rattle.decimal_text.proofs.Lines.{NoLf}
use Rattle.text_lines.specs.Items.{ItemInFront, NoItemInFront}
use Rattle.text_lines.specs.Lines.{IsOneLine}
use Rattle.text_lines.proofs.TextLines.{first_line, no_line}

module _ {A : Type 0} (text : A → List ℕ) (Fits : A → Type 0) where
  pub none_without_feed : (bytes : List ℕ) → IsOneLine bytes → NoItemInFront text Fits bytes
  none_without_feed bytes one = λ x rest there. no_line bytes (text x) rest one there.1

  pub none_of_other : ((x : A) → Fits x → NoLf (text x)) → (bytes line behind : List ℕ) → IsOneLine line → bytes ≡ line ++ 10 ∷ behind
      → ((x : A) → Fits x → line ≡ text x → ⊥) → NoItemInFront text Fits bytes
  none_of_other no_lf bytes line behind one is none = λ x rest there.
      none x there.0 (first_line bytes line behind (text x) rest one (no_lf x there.0) is there.1)

  pub first_of_line : (bytes line behind : List ℕ) (x : A) → bytes ≡ line ++ 10 ∷ behind → Fits x × (line ≡ text x) → ItemInFront text Fits x bytes behind
  first_of_line bytes line behind x is (fits, same) = (fits, is ∙ ap (λ (l : List ℕ). l ++ 10 ∷ behind) same)
