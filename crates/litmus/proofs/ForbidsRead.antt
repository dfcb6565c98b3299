-- Forbidden outcomes, read line by line.
use Rattle.std.proofs.Common.{◌≡◌, ℕ, List, length}
use Rattle.litmus.specs.TestGrammar.{forbid_text, IsOutcome}
use Rattle.text_lines.proofs.Items.{SoFar}

-- the outcomes so far, as many as lines were read
pub record ForbidsSoFar (count : ℕ) (text : List ℕ) (forbidden : List (List ℕ)) (rest : List ℕ) (read : ℕ) : Type 0 where
  pub far : SoFar forbid_text (IsOutcome count) text forbidden rest
  pub counted : length forbidden ≡ read
