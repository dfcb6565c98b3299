-- What is drawn.
use Rattle.std.specs.Prelude.{◌≤◌, ⊤, ℕ, IsSome}
use Rattle.verdict.specs.declared.answer.Verdict.{Verdict}
use Rattle.verdict.specs.declared.answer.Verdict.TheVariants.{Yes, No}
use Rattle.explain.specs.declared.explanation.Explanation.{Explanation}
use Rattle.explain.specs.declared.explanation.Explanation.TheVariants.{Load, CoreOrder, Program, Summed}

-- the most operations of a set that are drawn all at once
abbrev pub most_drawn : ℕ
most_drawn = 200

-- An explanation is drawn: that of a fault always, and that of a Yes if it tells all operations.
abbrev pub IsDrawn : Explanation → Type 0
IsDrawn (Load found) = ⊤
IsDrawn (CoreOrder fall) = ⊤
IsDrawn (Program departure) = ⊤
IsDrawn (Summed summary) = IsSome summary.rows

-- What a verdict stands on is drawn: with a No the operations around the fault, and with a Yes all operations, if they are few enough.
abbrev pub HasPicture : Verdict → Type 0
HasPicture (No fault) = ⊤
HasPicture (Yes count) = count ≤ most_drawn
