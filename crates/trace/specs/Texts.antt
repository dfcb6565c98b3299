-- The text of a trace, and its first fault.
use Rattle.std.specs.Prelude.{◌≡◌, ⊤, ℕ, ◌+◌, ◌-◌, ◌≤◌, ◌^◌, min, List, [], ◌∷◌, ◌++◌, length, fold}
use Rattle.std.specs.List.{AllZip}
use Rattle.std.specs.Str.Lines.{lines}
use Rattle.mem_op.specs.Consistency.{Operation}
use Rattle.mem_op.specs.Limits.{operation_limit}
use Rattle.trace.specs.declared.fault.TraceFault.{TraceFault}
use Rattle.trace.specs.declared.fault.TraceFault.TheVariants.{BadTraceLine, TooMany, OutOfMemory}
use Rattle.trace.specs.declared.line.TraceLine.{TraceLine}
use Rattle.trace.specs.declared.line.TraceLine.TheVariants.{Nothing, Performs}
use Rattle.trace.specs.Grammar.{IsLine}
use Rattle.flat_replay.specs.Accesses.{own_operations}
use Rattle.trace.specs.Growing.{with_operation, IsOfSize}

-- the cores after one more line
abbrev pub with_line : List (List Operation) → TraceLine → List (List Operation)
with_line cores Nothing = cores
with_line cores (Performs core operation) = with_operation core operation cores

-- the trace of what lines say
abbrev pub trace_of : List TraceLine → List (List Operation)
trace_of said = fold with_line [] said

-- The bytes are the text of a trace: each of their lines says something, and this is the trace of what they say. It has no more cores and operations
-- than a trace may have. A carriage return before a line feed is no part of a line, and the last line may lack its line feed.
pub record SpellsTrace (bytes : List ℕ) (cores : List (List Operation)) : Type 0 where
  pub said : List TraceLine
  pub says : AllZip IsLine (lines bytes) said
  pub size : IsOfSize cores
  pub trace : cores ≡ trace_of said

-- the number of a line, counted from 1, as far as 64 bits count
abbrev pub line_number : ℕ → ℕ
line_number n = min n (2 ^ 64 - 1)

-- the fault of a line that comes after lines which said these
abbrev pub IsFaultAt : List TraceLine → List ℕ → TraceFault → Type 0
IsFaultAt before line (BadTraceLine k) = (k ≡ line_number (length before + 1)) × ((said : TraceLine) → IsLine line said → ⊥)
IsFaultAt before line (TooMany k) =
    (k ≡ line_number (length before + 1)) × ((core : ℕ) × (operation : Operation) × IsLine line (Performs core operation) × (operation_limit ≤ length (own_operations (trace_of before) core)))
IsFaultAt before line OutOfMemory = ⊤

-- The bytes have this fault first: the lines before it say something, and it is the fault of the line after these.
pub record HasFirstFault (bytes : List ℕ) (fault : TraceFault) : Type 0 where
  pub earlier : List (List ℕ)
  pub line : List ℕ
  pub later : List (List ℕ)
  pub lines_are : lines bytes ≡ earlier ++ line ∷ later
  pub before : List TraceLine
  pub says : AllZip IsLine earlier before
  pub size : IsOfSize (trace_of before)
  pub fault_at : IsFaultAt before line fault

-- Why bytes aren't a trace. Lack of memory may come instead of a trace and of every other fault.
abbrev pub IsFault : List ℕ → TraceFault → Type 0
IsFault bytes (BadTraceLine k) = HasFirstFault bytes (BadTraceLine k)
IsFault bytes (TooMany k) = HasFirstFault bytes (TooMany k)
IsFault bytes OutOfMemory = ⊤
