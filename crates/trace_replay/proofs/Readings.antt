-- A trace read in pieces.
use Rattle.std.specs.Prelude.{◌≡◌, ℕ, ◌+◌, ◌-◌, ◌^◌, ◌≤◌, min, List, [], ◌++◌, Option, Result, Ok, Err, MatchResult, length}
use Rattle.std.proofs.Common.{arith, inl, inr, subst}
use Rattle.std.proofs.KnownBytes.{Consumes-nil, Consumes-kept}
use Rattle.std.proofs.lemmas.Bool.{cases_lt}
use Rattle.std.specs.Io.KnownBytes.{Consumes, Keeps}
use Rattle.log_file.specs.Devices.{Failed, Tells}
use Rattle.log_file.proofs.Devices.{consumes_told, told}
use Rattle.trace_replay.specs.Answers.{IsReplayed}
use Rattle.trace_replay.specs.Reading.{ReadsOn}
use Rattle.trace_replay.specs.declared.fault.ReplayFault.TheVariants.{BadTraceLine, OutOfMemory, Read}
use Rattle.trace_replay.specs.declared.line_replay.LineReplay.{LineReplay}
use Rattle.trace_replay.specs.declared.stop.Stop.{Stop}
use Rattle.trace_replay.specs.declared.stop.Stop.TheVariants.{Wrong, Refused}
use Rattle.trace_replay.specs.inner.Feeding.{IsAnswerOf, IsSettled, IsStopOf, WasFed, answer_to}
use Rattle.trace_replay.proofs.Feeding.{stand_in_order}

-- a piece more was read than was fed
pub reads_on : (l : LineReplay) (begun bytes piece : List ℕ) (old new : Option (List ℕ)) → WasFed l begun bytes → Consumes old new (bytes ++ piece)
    → length piece ≤ 65536 → ReadsOn old new
reads_on l begun bytes piece old new w gave short = record {
  bytes = bytes;
  piece = piece;
  gave = gave;
  short = short;
  whole = w.whole;
  begun = begun;
  cut = w.cut;
  said = w.said;
  says = w.says;
  order = stand_in_order w.said w.stands.replayer.order;
}

-- a failed read gave nothing
pub kept : (old new : Option (List ℕ)) → Keeps old new → Consumes old new []
kept old new keeps = Consumes-kept old old new [] (Consumes-nil old) keeps

-- a count that was kept and then rose by one, but for the largest, tells a failure
pub failed_read : (old now new : ℕ) → now ≡ old → new ≡ min (now + 1) (2 ^ 64 - 1) → Failed old new
failed_read old now new same is = elim (cases_lt old (2 ^ 64 - 1)) [
  | inl below ↦ inl (omega (arith, below))
  | inr above ↦ inr (omega (arith, above))
]

stop_answered : (bytes : List ℕ) (stop : Stop) → IsStopOf bytes stop → IsAnswerOf bytes (answer_to stop)
stop_answered bytes (Wrong wrong) is = is
stop_answered bytes (Refused (BadTraceLine number)) is = is
stop_answered bytes (Refused OutOfMemory) is = tt
stop_answered bytes (Refused Read) is = absurd is

-- what the end of the bytes is answered with
pub end_answered : (bytes : List ℕ) (r : Result ℕ Stop) → MatchResult r (IsReplayed bytes) (IsStopOf bytes)
    → MatchResult r (IsReplayed bytes) (λ stop. IsAnswerOf bytes (answer_to stop))
end_answered bytes (Ok count) is = is
end_answered bytes (Err stop) is = stop_answered bytes stop is

-- a stop that is settled is answered to all bytes
pub settled_answered : (old new : Option (List ℕ)) (bytes : List ℕ) (stop : Stop) → Consumes old new bytes → IsSettled bytes stop
    → (all : List ℕ) × Tells old all × IsAnswerOf all (answer_to stop)
settled_answered old new bytes stop gave settled =
    (bytes ++ told new, consumes_told old new bytes gave, stop_answered (bytes ++ told new) stop (settled (told new)))

-- bytes are no failed read
pub not_unread : (bytes : List ℕ) (stop : Stop) → IsStopOf bytes stop → stop ≡ Refused Read → ⊥
not_unread bytes stop is unread = subst (IsStopOf bytes) unread is

pub end_not_unread : (bytes : List ℕ) (r : Result ℕ Stop) → MatchResult r (IsReplayed bytes) (IsStopOf bytes) → r ≡ Err (Refused Read) → ⊥
end_not_unread bytes (Ok count) is unread = absurd cc
end_not_unread bytes (Err stop) is unread = not_unread bytes stop is cc
