-- What sinks take.
use Rattle.std.specs.Prelude.{◌⊎◌, ℕ, List, [], ◌∷◌, ◌++◌, Option}
use Rattle.std.specs.Io.KnownBytes.{Appends}
use Rattle.log_file.specs.Devices.{Failed, TakesBeginning}

-- what a sink took, if it tells that, and how often it failed
pub record Sink : Type 0 where
  pub contents : Option (List ℕ)
  pub failed : ℕ

abbrev pub sink_of : {S : Type 0} → (S → Option (List ℕ)) → (S → ℕ) → S → Sink
sink_of contents failed s = record { contents = contents s; failed = failed s }

abbrev pub HasFailed : Sink → Sink → Type 0
HasFailed old new = Failed old.failed new.failed

-- the sink took the text, or failed after a beginning of it
abbrev pub Takes : Sink → Sink → List ℕ → Type 0
Takes old new text = Appends old.contents new.contents text ⊎ (HasFailed old new × TakesBeginning old.contents new.contents text)

-- the sink took bytes of which this holds
abbrev pub Took : Sink → Sink → (List ℕ → Type 0) → Type 0
Took old new Holds = (written : List ℕ) × Appends old.contents new.contents written × Holds written

-- the sink took this text, and maybe more after it
abbrev pub TookFirst : Sink → Sink → List ℕ → Type 0
TookFirst old new text = (more : List ℕ) × Appends old.contents new.contents (text ++ more)

-- the sink took nothing of a text that begins so, or a beginning of it
abbrev pub TookAtMost : Sink → Sink → List ℕ → Type 0
TookAtMost old new text = (more : List ℕ) × TakesBeginning old.contents new.contents (text ++ more)

-- a text and its line feed
abbrev pub line : List ℕ → List ℕ
line text = text ++ 10 ∷ []
