-- What a replay of a trace says of its text.
use Rattle.std.specs.Prelude.{ℕ, List, Option}
use Rattle.std.specs.List.{AllZip}
use Rattle.std.specs.Str.Lines.{lines}
use Rattle.log_file.specs.Devices.{Tells}
use Rattle.mem_op.specs.Consistency.{IsConsistent}
use Rattle.trace.specs.Grammar.{IsLine}
use Rattle.trace.specs.Texts.{trace_of}
use Rattle.trace.specs.declared.line.TraceLine.{TraceLine}
use Rattle.trace_replay.specs.Answers.{IsWrongAt, StopsAt}
use Rattle.trace_replay.specs.Parts.{WrongParts}

-- this holds of the text of the file of this name
abbrev pub TellsText : (List ℕ → Option (List ℕ)) → List ℕ → (List ℕ → Type 0) → Type 0
TellsText told name Holds = (text : List ℕ) × Tells (told name) text × Holds text

-- each line says something, and the trace of what they say, which may have any length, is sequentially consistent
abbrev pub IsConsistentText : List ℕ → Type 0
IsConsistentText text = (said : List TraceLine) × AllZip IsLine (lines text) said × IsConsistent (trace_of said)

-- from the line of some load or swap on, the lines aren't in a sequential order of their trace
abbrev pub IsOutOfOrder : List ℕ → Type 0
IsOutOfOrder text = (wrong : WrongParts) × StopsAt text (IsWrongAt wrong)
