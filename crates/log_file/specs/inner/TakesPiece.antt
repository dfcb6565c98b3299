-- What a reader takes of a piece.
use Rattle.std.specs.Prelude.{◌≡◌, ◌++◌, ℕ, List, None, Some, Result, IfSome, MatchResult}
use Rattle.log_record.specs.declared.record.Record.{Record}
use Rattle.log_file.specs.declared.fault.LogFault.{LogFault}
use Rattle.log_file.specs.Answering.{Answering, HasAnswered, fed_text}
use Rattle.log_file.specs.Feeding.{IsSettled}

-- A reader that has read the records `before` takes all of a piece, and has read `records` then. It stays a reader of the same log.
pub record TakesPiece (old : Answering) (before : List Record) (piece : List ℕ) (r : Result (Unit {0}) LogFault)
    (new : Answering) (records : List Record) : Type 0 where
  pub core : new.core ≡ old.core
  pub cores : new.cores ≡ old.cores
  -- if no fault came before, it has answered the records of all bytes, or answers their fault and keeps it
  pub fed : old.fault ≡ None → MatchResult r
      (λ _. HasAnswered new (fed_text old before ++ piece) records)
      (λ fault. (new.fault ≡ Some fault) × IsSettled old.core old.cores (fed_text old before ++ piece) fault)
  -- if one did, it answers that one again, and keeps it
  pub again : IfSome old.fault (λ fault. MatchResult r (λ _. ⊥) (λ f. f ≡ fault) × (new.fault ≡ Some fault))
