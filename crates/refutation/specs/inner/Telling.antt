-- What private functions tell of bytes.
use Rattle.std.specs.Prelude.{◌≡◌, ◌≢◌, ℕ, ◌<◌, ◌^◌, List, Option, Some, None}
use Rattle.std.specs.List.{AllByRecursion}
use Rattle.mem_op.specs.declared.id.OpId.{OpId}
use Rattle.refutation.specs.declared.line.Reason.{Reason}
use Rattle.refutation.specs.declared.step.Step.{Step}
use Rattle.refutation.specs.Grammar.{reason_text, name_text, fields_text, step_text, IdFits, PathFits, Fits}
use Rattle.text_lines.specs.Words.{spaced}

-- the bytes are these words, or no such words
abbrev pub TellsWords : {A : Type 0} → (A → List ℕ) → (A → Type 0) → List ℕ → Option (List A) → Type 0
TellsWords {A} word WordFits bytes None = (xs : List A) → AllByRecursion WordFits xs → bytes ≢ spaced word xs
TellsWords word WordFits bytes (Some xs) = AllByRecursion WordFits xs × (bytes ≡ spaced word xs)

-- the bytes are the number of a fact, a write and a path, or aren't such
abbrev pub TellsReason : List ℕ → Option Reason → Type 0
TellsReason bytes None = (source : ℕ) (write : OpId) (path : List ℕ) → source < 2 ^ 64 → IdFits write → PathFits path → bytes ≢ reason_text source write path
TellsReason bytes (Some x) = (x.source < 2 ^ 64) × IdFits x.write × PathFits x.path × (bytes ≡ reason_text x.source x.write x.path)

-- the bytes are the fields of this step, which has this name, or of no such step
abbrev pub TellsStep : List ℕ → List ℕ → Option Step → Type 0
TellsStep name bytes None = (step : Step) → Fits step → name_text step ≡ name → bytes ≢ fields_text step
TellsStep name bytes (Some step) = Fits step × (name_text step ≡ name) × (bytes ≡ fields_text step)

-- the line is that of this step, or of none
abbrev pub TellsLine : List ℕ → Option Step → Type 0
TellsLine line None = (step : Step) → Fits step → line ≢ step_text step
TellsLine line (Some step) = Fits step × (line ≡ step_text step)
