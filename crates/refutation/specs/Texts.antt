-- What the bytes of a refutation say, and where they go wrong.
use Rattle.std.specs.Prelude.{◌≡◌, ◌≢◌, ℕ, ◌+◌, ◌⊎◌, List, [], ◌++◌, length}
use Rattle.mem_op.specs.Consistency.{Operation}
use Rattle.refutation.specs.declared.fault.CertificateFault.{CertificateFault}
use Rattle.refutation.specs.declared.fault.CertificateFault.TheVariants.{BadCertificate, OutOfMemory}
use Rattle.refutation.specs.declared.step.Step.{Step}
use Rattle.refutation.specs.Grammar.{header_line, step_text, steps_text, end_line, refutation_text, Fits, EachFits}
use Rattle.refutation.specs.Refuting.{IsRefutation, IsFirstWrong}
use Rattle.text_lines.specs.Items.{ItemInFront, NoItemInFront}

-- the bytes are the text of these steps
abbrev pub Spells : List ℕ → List Step → Type 0
Spells bytes steps = EachFits steps × (bytes ≡ refutation_text steps)

-- the bytes begin with a step's line, and these come after it
abbrev pub StepInFront : Step → List ℕ → List ℕ → Type 0
StepInFront step bytes rest = ItemInFront step_text Fits step bytes rest

-- the bytes don't begin with a step's line
abbrev pub NoStepInFront : List ℕ → Type 0
NoStepInFront bytes = NoItemInFront step_text Fits bytes

-- the bytes are the header, the lines of these steps and then the rest, which doesn't begin with a step's line
pub record Begins (bytes : List ℕ) (steps : List Step) (rest : List ℕ) : Type 0 where
  pub each_fits : EachFits steps
  pub text : bytes ≡ header_line ++ (steps_text steps ++ rest)
  pub none_in_front : NoStepInFront rest

-- The `end` line alone should come after the lines of this many steps, and this line of the text isn't as it should be: the one that should be the
-- `end` line, or the one after it.
abbrev pub EndsBadly : List ℕ → ℕ → ℕ → Type 0
EndsBadly rest count line =
    ((line ≡ count + 2) × ((more : List ℕ) → rest ≢ end_line count ++ more))
    ⊎ ((line ≡ count + 3) × ((more : List ℕ) × (more ≢ []) × (rest ≡ end_line count ++ more)))

-- line 1 isn't the header
abbrev pub LacksHeader : List ℕ → ℕ → Type 0
LacksHeader bytes line = (line ≡ 1) × ((rest : List ℕ) → bytes ≢ header_line ++ rest)

-- this line, counted from 1, is the first that isn't of the text's shape
abbrev pub IsFirstMisshapen : List ℕ → ℕ → Type 0
IsFirstMisshapen bytes line =
    LacksHeader bytes line ⊎ ((steps : List Step) × (rest : List ℕ) × Begins bytes steps rest × EndsBadly rest (length steps) line)

-- Why bytes aren't a refutation's text. Lack of memory may come instead.
abbrev pub IsFault : List ℕ → CertificateFault → Type 0
IsFault bytes (BadCertificate line) = IsFirstMisshapen bytes line
IsFault bytes OutOfMemory = Unit {0}

-- This line is the first that isn't of the text's shape, or whose step isn't right or comes after the last case was closed; or it is where the `end`
-- line should be, but cases are left.
abbrev pub IsFirstBad : List (List Operation) → List ℕ → ℕ → Type 0
IsFirstBad cores bytes line =
    LacksHeader bytes line
    ⊎ ((steps : List Step) × (rest : List ℕ) × Begins bytes steps rest
    × (((place : ℕ) × IsFirstWrong cores steps place × (line ≡ place + 2)) ⊎ (IsRefutation cores steps × EndsBadly rest (length steps) line)))

-- the bytes are the text of a refutation of a trace
abbrev pub SpellsRefutation : List (List Operation) → List ℕ → Type 0
SpellsRefutation cores bytes = (steps : List Step) × Spells bytes steps × IsRefutation cores steps
