-- What a reader of a trace was fed, and what it answers.
use Rattle.std.specs.Prelude.{◌≡◌, ℕ, List, ◌++◌, length, map, Option, None}
use Rattle.std.specs.List.{AllByRecursion, AllZip}
use Rattle.std.specs.Str.Lines.{strip_carriage_return}
use Rattle.mem_op.specs.Consistency.{Operation}
use Rattle.trace.specs.declared.fault.TraceFault.{TraceFault}
use Rattle.trace.specs.declared.line.TraceLine.{TraceLine}
use Rattle.trace.specs.Grammar.{IsLine}
use Rattle.trace.specs.Growing.{IsOfSize}
use Rattle.trace.specs.Texts.{trace_of, line_number, IsFault}
use Rattle.text_lines.specs.Lines.{IsOneLine, text_of}

-- a reader: the trace of the whole lines, how many these are, the bytes of the line that isn't whole yet, and the
-- fault that it answers from then on
pub record Reading : Type 0 where
  pub cores : List (List Operation)
  pub count : ℕ
  pub begun : List ℕ
  pub fault : Option TraceFault

-- the trace so far and the number of lines are of what these lines said
pub record Stands (cores : List (List Operation)) (count : ℕ) (said : List TraceLine) : Type 0 where
  pub size : IsOfSize cores
  pub trace : cores ≡ trace_of said
  pub counted : count ≡ line_number (length said)

-- no fault came, and the reader was fed these bytes: whole lines, and the beginning of one more
pub record WasFed (s : Reading) (bytes : List ℕ) : Type 0 where
  pub faultless : s.fault ≡ None
  pub whole : List (List ℕ)
  pub each : AllByRecursion IsOneLine whole
  pub one : IsOneLine s.begun
  pub bytes_are : bytes ≡ text_of whole ++ s.begun
  pub said : List TraceLine
  pub says : AllZip IsLine (map strip_carriage_return whole) said
  pub stands : Stands s.cores s.count said

-- the first fault of the bytes, however they go on
abbrev pub IsSettled : List ℕ → TraceFault → Type 0
IsSettled bytes fault = (more : List ℕ) → IsFault (bytes ++ more) fault
