-- How far a trace is read.
use Rattle.std.specs.Prelude.{◌≡◌, ℕ, ◌≤◌, List, ◌++◌, Option, length}
use Rattle.std.specs.List.{AllZip}
use Rattle.std.specs.Str.Lines.{lines}
use Rattle.std.specs.Io.KnownBytes.{Consumes}
use Rattle.trace.specs.Grammar.{IsLine}
use Rattle.trace.specs.declared.line.TraceLine.{TraceLine}
use Rattle.trace_replay.specs.Answers.{StandInOrder}
use Rattle.text_lines.specs.Lines.{IsOneLine}

-- the whole lines of the bytes, and the beginning of one more
pub record AreCut (bytes : List ℕ) (whole : List (List ℕ)) (begun : List ℕ) : Type 0 where
  pub one : IsOneLine begun
  pub lines_are : (more : List ℕ) → lines (bytes ++ more) ≡ whole ++ lines (begun ++ more)

-- the source gave these bytes and then one piece more, and all lines that are whole without that piece stand in order
pub record ReadsOn (old new : Option (List ℕ)) : Type 0 where
  pub bytes : List ℕ
  pub piece : List ℕ
  pub gave : Consumes old new (bytes ++ piece)
  pub short : length piece ≤ 65536
  pub whole : List (List ℕ)
  pub begun : List ℕ
  pub cut : AreCut bytes whole begun
  pub said : List TraceLine
  pub says : AllZip IsLine whole said
  pub order : StandInOrder said
