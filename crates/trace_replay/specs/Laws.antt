-- Laws of replays.
use Rattle.std.specs.Prelude.{◌≡◌, ℕ, List}
use Rattle.trace.specs.Texts.{trace_of}
use Rattle.trace.specs.declared.line.TraceLine.{TraceLine}
use Rattle.trace_replay.specs.Answers.{IsVerdict, IsFault}
use Rattle.trace_replay.specs.Steps.{cores_of, steps_of}
use Rattle.trace_replay.specs.declared.fault.ReplayFault.TheVariants.{BadTraceLine}
use Rattle.trace_replay.specs.declared.verdict.ReplayVerdict.{ReplayVerdict}

-- bytes have one verdict at most, and none where they have a bad line
pub record AtMostOneAnswer : Type 0 where
  pub verdict : (bytes : List ℕ) (v w : ReplayVerdict) → IsVerdict bytes v → IsVerdict bytes w → v ≡ w
  pub no_fault : (bytes : List ℕ) (v : ReplayVerdict) (number : ℕ) → IsVerdict bytes v → ¬ IsFault bytes (BadTraceLine number)

-- the operations of the steps that lines tell are those of their trace
abbrev pub IsOfTrace : Type 0
IsOfTrace = (said : List TraceLine) → cores_of (steps_of said) ≡ trace_of said
