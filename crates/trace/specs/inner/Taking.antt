-- What a reader's parts do with lines.
use Rattle.std.specs.Prelude.{ℕ, List, [], ◌∷◌, ◌++◌}
use Rattle.mem_op.specs.Consistency.{Operation}
use Rattle.trace.specs.declared.refusal.TraceFull.{TraceFull}
use Rattle.trace.specs.declared.line.TraceLine.{TraceLine}
use Rattle.trace.specs.declared.line.TraceLine.TheVariants.{Nothing, Performs}
use Rattle.trace.specs.Grammar.{IsLine}
use Rattle.trace.specs.Growing.{IsRefusal}
use Rattle.trace.specs.Reading.{Stands}

-- why what a line says isn't added: its core is full, or memory was refused
abbrev pub IsLineRefusal : List (List Operation) → TraceLine → TraceFull → Type 0
IsLineRefusal cores Nothing refusal = ⊥
IsLineRefusal cores (Performs core operation) refusal = IsRefusal core cores refusal

-- one more line was taken
pub record TakesLine (said : List TraceLine) (line : List ℕ) (cores : List (List Operation)) (count : ℕ) : Type 0 where
  pub last : TraceLine
  pub is_line : IsLine line last
  pub stands : Stands cores count (said ++ last ∷ [])
