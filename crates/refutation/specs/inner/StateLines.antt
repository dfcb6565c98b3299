-- What is read of the line of a set of states.
use Rattle.std.specs.Prelude.{◌≡◌, ℕ, true, List, ◌++◌, None, codes}
use Rattle.decimal_text.specs.Numbers.{numeral}
use Rattle.refutation.specs.declared.state.State.{State}
use Rattle.refutation.specs.declared.state.State.TheVariants.{Open, Dead}
use Rattle.refutation.specs.Grammar.{PathFits}
use Rattle.text_lines.specs.Words.{ends_word, spaced, spaced_number}

-- the bytes are this sign, these numbers and then the rest, which doesn't begin with another number
pub record PartInFront (sign bytes numbers rest : List ℕ) : Type 0 where
  pub each : PathFits numbers
  pub text : bytes ≡ sign ++ (spaced numeral numbers ++ rest)
  pub none : spaced_number rest ≡ None
  pub ends : ends_word rest ≡ true

abbrev pub NoPartInFront : List ℕ → List ℕ → Type 0
NoPartInFront sign bytes = (numbers rest : List ℕ) → PartInFront sign bytes numbers rest → ⊥

-- the bytes begin with the parts of a state, and these come after them
abbrev pub StateInFront : State → List ℕ → List ℕ → Type 0
StateInFront (Open next words) bytes rest = (r : List ℕ) × PartInFront (codes " |") bytes next r × PartInFront (codes " :") r words rest
StateInFront (Dead next words limits) bytes rest =
    (r s : List ℕ) × PartInFront (codes " !") bytes next r × PartInFront (codes " :") r words s × PartInFront (codes " :") s limits rest

abbrev pub NoStateInFront : List ℕ → Type 0
NoStateInFront bytes = (state : State) (rest : List ℕ) → StateInFront state bytes rest → ⊥
