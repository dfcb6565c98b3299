-- What is answered to the bytes of a trace.
use Rattle.std.specs.Prelude.{◌≡◌, ⊤, ℕ, ◌+◌, List, ◌∷◌, ◌++◌, length}
use Rattle.std.specs.List.{AllZip}
use Rattle.std.specs.Str.Lines.{lines}
use Rattle.mem_op.specs.Consistency.{Operation, IsSequentialOrder}
use Rattle.trace.specs.Grammar.{IsLine}
use Rattle.trace.specs.Texts.{line_number, trace_of}
use Rattle.trace.specs.declared.line.TraceLine.{TraceLine}
use Rattle.trace.specs.declared.line.TraceLine.TheVariants.{Performs}
use Rattle.trace_replay.specs.Parts.{WrongParts}
use Rattle.trace_replay.specs.States.{IsWrong, counted}
use Rattle.trace_replay.specs.Steps.{order_of, steps_of}
use Rattle.trace_replay.specs.declared.fault.ReplayFault.{ReplayFault}
use Rattle.trace_replay.specs.declared.fault.ReplayFault.TheVariants.{BadTraceLine, OutOfMemory, Read}
use Rattle.trace_replay.specs.declared.verdict.ReplayVerdict.{ReplayVerdict}
use Rattle.trace_replay.specs.declared.verdict.ReplayVerdict.TheVariants.{Yes, No}

-- lines that said these are in a sequential order of their trace
abbrev pub StandInOrder : List TraceLine → Type 0
StandInOrder said = IsSequentialOrder (trace_of said) (order_of (steps_of said))

-- each line says something, and they stand in order
pub record IsReplayed (bytes : List ℕ) (count : ℕ) : Type 0 where
  pub said : List TraceLine
  pub says : AllZip IsLine (lines bytes) said
  pub order : StandInOrder said
  pub count_is : count ≡ counted (length (steps_of said))

-- the lines before some line say something and stand in order, and this holds of that line after what they said
pub record StopsAt (bytes : List ℕ) (Here : List TraceLine → List ℕ → Type 0) : Type 0 where
  pub earlier : List (List ℕ)
  pub line : List ℕ
  pub later : List (List ℕ)
  pub lines_are : lines bytes ≡ earlier ++ line ∷ later
  pub before : List TraceLine
  pub says : AllZip IsLine earlier before
  pub order : StandInOrder before
  pub here : Here before line

-- with this line they no longer stand in order, and this is what is told about its operation
abbrev pub IsWrongAt : WrongParts → List TraceLine → List ℕ → Type 0
IsWrongAt wrong before line =
    (core : ℕ) × (operation : Operation) × IsLine line (Performs core operation) × IsWrong (steps_of before) core operation wrong

-- a line of this number that says nothing
abbrev pub IsBadAt : ℕ → List TraceLine → List ℕ → Type 0
IsBadAt number before line = (number ≡ line_number (length before + 1)) × ((said : TraceLine) → ¬ IsLine line said)

abbrev pub IsVerdict : List ℕ → ReplayVerdict → Type 0
IsVerdict bytes (Yes count) = IsReplayed bytes count
IsVerdict bytes (No wrong) = StopsAt bytes (IsWrongAt wrong)

-- why there is no verdict; a failed read or lack of memory may come instead of each
abbrev pub IsFault : List ℕ → ReplayFault → Type 0
IsFault bytes (BadTraceLine number) = StopsAt bytes (IsBadAt number)
IsFault bytes OutOfMemory = ⊤
IsFault bytes Read = ⊤
