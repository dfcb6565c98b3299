-- Which files a search of a trace puts, and what they show.
use Rattle.std.specs.Prelude.{◌≡◌, ◌⊎◌, ℕ, List, Option}
use Rattle.commands.specs.Outputs.{HoldsAt, IsNameOf}
use Rattle.command_line.specs.declared.request.Search.{Search}
use Rattle.mem_op.specs.Consistency.{Operation}
use Rattle.refutation.specs.Grammar.{refutation_text}
use Rattle.refutation.specs.Refuting.{IsRefutation}
use Rattle.refutation.specs.declared.step.Step.{Step}
use Rattle.commands.specs.OrderTexts.{SpellsOrder}
use Rattle.commands.specs.Traces.{TellsTrace}

-- a name under which the search may put a file
abbrev pub IsOutputName : Search → List ℕ → Type 0
IsOutputName asked name = IsNameOf asked.order name ⊎ (IsNameOf asked.refutation name ⊎ IsNameOf asked.picture name)

-- no picture was asked for under the name of the refutation
abbrev pub IsNamedApart : Search → Type 0
IsNamedApart asked = (name : List ℕ) → IsNameOf asked.refutation name → ¬ (IsNameOf asked.picture name)

-- the bytes are the text of a refutation of these operations
abbrev pub IsRefutationText : List (List Operation) → List ℕ → Type 0
IsRefutationText cores bytes = (steps : List Step) × IsRefutation cores steps × (bytes ≡ refutation_text steps)

-- After 0 the file of the order, if one was asked for, spells a sequential order of these operations. After 1 that of the refutation has the text of
-- a refutation of them, unless the picture was put in its place.
pub record Shows (told : List ℕ → Option (List ℕ)) (asked : Search) (status : ℕ) (cores : List (List Operation)) : Type 0 where
  pub order : status ≡ 0 → HoldsAt told asked.order (SpellsOrder cores)
  pub refutation : status ≡ 1 → IsNamedApart asked → HoldsAt told asked.refutation (IsRefutationText cores)

-- the files that were put show the answer to the trace that was read
abbrev pub ShowsAnswer : (List ℕ → Option (List ℕ)) → (List ℕ → Option (List ℕ)) → Search → ℕ → Type 0
ShowsAnswer told told' asked status = TellsTrace told asked.trace (Shows told' asked status)
