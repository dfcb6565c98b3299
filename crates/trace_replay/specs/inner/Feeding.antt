-- Lines that are replayed, fed in pieces.
use Rattle.std.specs.Prelude.{◌≡◌, ⊤, ℕ, List, [], ◌∷◌, ◌++◌, Result, Ok, Err, MatchResult, length}
use Rattle.std.specs.List.{AllZip}
use Rattle.trace.specs.Grammar.{IsLine}
use Rattle.trace.specs.Texts.{line_number}
use Rattle.trace.specs.declared.line.TraceLine.{TraceLine}
use Rattle.trace.specs.declared.line.TraceLine.TheVariants.{Nothing, Performs}
use Rattle.trace_replay.specs.Answers.{IsBadAt, IsFault, IsVerdict, IsWrongAt}
use Rattle.trace_replay.specs.Reading.{AreCut}
use Rattle.trace_replay.specs.States.{IsWrong, StandsFor}
use Rattle.trace_replay.specs.Steps.{Step, steps_of}
use Rattle.trace_replay.specs.declared.fault.ReplayFault.{ReplayFault}
use Rattle.trace_replay.specs.declared.fault.ReplayFault.TheVariants.{BadTraceLine, OutOfMemory, Read}
use Rattle.trace_replay.specs.declared.line_replay.LineReplay.{LineReplay}
use Rattle.trace_replay.specs.declared.stop.Stop.{Stop}
use Rattle.trace_replay.specs.declared.stop.Stop.TheVariants.{Wrong, Refused}
use Rattle.trace_replay.specs.declared.verdict.ReplayVerdict.{ReplayVerdict}
use Rattle.trace_replay.specs.declared.verdict.ReplayVerdict.TheVariants.{No}

-- lines that said these were replayed
pub record Stands (l : LineReplay) (said : List TraceLine) : Type 0 where
  pub replayer : StandsFor l.replayer (steps_of said)
  pub number : l.number ≡ line_number (length said)

-- and one more line was
pub record TakesLine (said : List TraceLine) (line : List ℕ) (l : LineReplay) : Type 0 where
  pub last : TraceLine
  pub is_line : IsLine line last
  pub stands : Stands l (said ++ last ∷ [])

-- why what a line says isn't performed
abbrev pub IsStopBy : List Step → TraceLine → Stop → Type 0
IsStopBy steps Nothing stop = ⊥
IsStopBy steps (Performs core operation) (Wrong wrong) = IsWrong steps core operation wrong
IsStopBy steps (Performs core operation) (Refused fault) = fault ≡ OutOfMemory

-- why the replay stops at a line
abbrev pub IsStopAt : List TraceLine → List ℕ → Stop → Type 0
IsStopAt before line (Wrong wrong) = IsWrongAt wrong before line
IsStopAt before line (Refused (BadTraceLine number)) = IsBadAt number before line
IsStopAt before line (Refused OutOfMemory) = ⊤
IsStopAt before line (Refused Read) = ⊥

-- these bytes were fed: lines that were replayed, and the beginning of one more, which isn't whole yet
pub record WasFed (l : LineReplay) (begun bytes : List ℕ) : Type 0 where
  pub whole : List (List ℕ)
  pub cut : AreCut bytes whole begun
  pub said : List TraceLine
  pub says : AllZip IsLine whole said
  pub stands : Stands l said

-- why the replay of these bytes stops
abbrev pub IsStopOf : List ℕ → Stop → Type 0
IsStopOf bytes (Wrong wrong) = IsVerdict bytes (No wrong)
IsStopOf bytes (Refused Read) = ⊥
IsStopOf bytes (Refused fault) = IsFault bytes fault

-- and it stops so however the bytes go on
abbrev pub IsSettled : List ℕ → Stop → Type 0
IsSettled bytes stop = (more : List ℕ) → IsStopOf (bytes ++ more) stop

-- what a stop is answered as
abbrev pub answer_to : Stop → Result ReplayVerdict ReplayFault
answer_to (Wrong wrong) = Ok (No wrong)
answer_to (Refused fault) = Err fault

-- the answer to bytes; a failed read or lack of memory may come instead of each
abbrev pub IsAnswerOf : List ℕ → Result ReplayVerdict ReplayFault → Type 0
IsAnswerOf bytes answer = MatchResult answer (IsVerdict bytes) (IsFault bytes)
