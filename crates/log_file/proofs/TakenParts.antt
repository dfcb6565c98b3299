-- The parts of a piece that a reader has taken.
use Rattle.std.proofs.Common.{◌≡◌, ◌∙◌, ◌-◌, ◌<◌, ◌≤◌, ℕ, List, [], ◌∷◌, ◌++◌, Option, None, Some, length, take, drop, ap, arith, refl, subst, sym, append_assoc, length-append}
use Rattle.std.specs.Prelude.{MatchResult, Result, is_some, true, false}
use Rattle.std.proofs.lemmas.List.{take_at, take-append-drop}
use Rattle.mem_op.specs.Limits.{operation_limit}
use Rattle.log_record.specs.declared.record.Record.{Record}
use Rattle.log_file.specs.declared.fault.LogFault.{LogFault}
use Rattle.log_file.specs.declared.stage.Stage.{Stage}
use Rattle.log_file.specs.declared.stage.Stage.TheVariants as stage
use Rattle.log_file.specs.Answering.{Answering, AnswersOne, HasAnswered, fed_text}
use Rattle.log_file.specs.Feeding.{IsSettled}
use Rattle.log_file.specs.Log.{with_lf}
use Rattle.log_file.specs.OneLine.{IsOneLine}
use Rattle.log_file.specs.Standing.{IsInRecords, IsSound}
use Rattle.log_file.specs.inner.NextLine.{IsLineRefused, IsPartRefused, IsSameLog, IsTooFar, TakesLine, with_read}
use Rattle.log_file.specs.inner.TakesPiece.{TakesPiece}
use Rattle.log_file.proofs.Fed.{same_log}
use Rattle.log_file.proofs.Settled.{settled_front}
use Rattle.log_file.proofs.Standing.{last_part_refused, last_read, part_refused, takes_line, takes_part}

-- the bytes that were taken, if this is the rest
front_is : (piece front rest : List ℕ) → piece ≡ front ++ rest → take (length piece - length rest) piece ≡ front
front_is piece front rest is =
    let many : length front ≡ length piece - length rest = omega (arith, ap length is, length-append front rest) in
    ap (take (length piece - length rest)) is ∙ take_at front rest _ many

-- ---- up to a record's line

-- lines of no record were taken, and this is the rest
pub record TakesFront (old now : Answering) (piece rest : List ℕ) : Type 0 where
  pub same : IsSameLog old now
  pub faultless : now.fault ≡ None
  pub front : List ℕ
  pub is : piece ≡ front ++ rest
  pub answered : (bytes : List ℕ) (records : List Record) → HasAnswered old bytes records → HasAnswered now (bytes ++ front) records

module _ {old mid : Answering} {piece rest : List ℕ} (so_far : TakesFront old mid piece rest) where
  module _ (part after : List ℕ) (one : IsOneLine part) (feed : rest ≡ with_lf part ++ after) where
    -- the bytes up to the end of one more line
    line_is : piece ≡ (so_far.front ++ with_lf part) ++ after
    line_is = so_far.is ∙ ap (λ (xs : List ℕ). so_far.front ++ xs) feed ∙ sym (append_assoc so_far.front (with_lf part) after)

    module _ (new : Answering) (r : Option Record) (line : TakesLine mid part r new) where
      one_more : (bytes : List ℕ) (records : List Record) → HasAnswered old bytes records → HasAnswered new (bytes ++ (so_far.front ++ with_lf part)) (with_read records r)
      one_more bytes records had = rw (append_assoc bytes so_far.front (with_lf part)) at (takes_line (so_far.answered bytes records had) part one new r line)

      -- a line of no record
      pub goes_on : is_some r ≡ false → TakesFront old new piece after
      goes_on none =
          let no : r ≡ None = grind arith in
          record {
            same = record { core = ap (λ (s : Answering). s.core) line.1 ∙ so_far.same.core; cores = ap (λ (s : Answering). s.cores) line.1 ∙ so_far.same.cores };
            faultless = ap (λ (s : Answering). s.fault) line.1 ∙ so_far.faultless;
            front = so_far.front ++ with_lf part;
            is = line_is;
            answered = λ bytes records had. rw no at (one_more bytes records had);
          }

      -- a record's line
      pub comes_to : is_some r ≡ true → (bytes : List ℕ) (records : List Record) → HasAnswered old bytes records
          → AnswersOne bytes records piece (length piece - length after, r) new
      comes_to some bytes records had = go r refl some
        where
          go : (o : Option Record) → r ≡ o → is_some o ≡ true → AnswersOne bytes records piece (length piece - length after, o) new
          go None is never = cc
          go (Some x) is any = (
            omega (arith, ap length line_is, length-append (so_far.front ++ with_lf part) after, length-append so_far.front (with_lf part), length-append part (10 ∷ [])),
            rw (front_is piece (so_far.front ++ with_lf part) after line_is) (rw is at (one_more bytes records had)),
            ap (λ (s : Answering). s.begun) line.1,
            last_read mid.stage new.stage mid (mid.begun ++ part) x (rw is at line.0),
          )

    pub line_refused : (f : LogFault) → IsLineRefused mid part f → (bytes : List ℕ) (records : List Record) → HasAnswered old bytes records
        → IsSettled old.core old.cores (bytes ++ piece) f
    line_refused f refused bytes records had =
        let settled = last_part_refused (so_far.answered bytes records had) part one f refused in
        let cut : ((bytes ++ so_far.front) ++ with_lf part) ++ after ≡ bytes ++ ((so_far.front ++ with_lf part) ++ after) = simp append_assoc in
        let whole : ((bytes ++ so_far.front) ++ with_lf part) ++ after ≡ bytes ++ piece = cut ∙ ap (λ (xs : List ℕ). bytes ++ xs) (sym line_is) in
        same_log (λ core cores. IsSettled core cores (bytes ++ piece) f) so_far.same.core so_far.same.cores
        (rw whole at (settled_front mid.core mid.cores _ after f settled))

  module _ (one : IsOneLine rest) (bytes : List ℕ) (records : List Record) (had : HasAnswered old bytes records) where
    all_is : (bytes ++ so_far.front) ++ rest ≡ bytes ++ piece
    all_is = append_assoc bytes so_far.front rest ∙ ap (λ (xs : List ℕ). bytes ++ xs) (sym so_far.is)

    -- the rest has no line feed
    pub rest_taken : (IsTooFar mid rest → ⊥) → HasAnswered (record mid { begun = mid.begun ++ rest }) (bytes ++ piece) records
    rest_taken fits = rw all_is at (takes_part (so_far.answered bytes records had) rest one fits)

    pub rest_refused : (f : LogFault) → IsPartRefused mid rest f → IsSettled old.core old.cores (bytes ++ piece) f
    rest_refused f refused =
        same_log (λ core cores. IsSettled core cores (bytes ++ piece) f) so_far.same.core so_far.same.cores
        (rw all_is at (part_refused (so_far.answered bytes records had) rest one f refused))

-- ---- all of a piece

-- A reader took all bytes of a text but the rest, and has read these records then.
pub record TakesBut (old now : Answering) (records : List Record) (text rest : List ℕ) : Type 0 where
  pub same : IsSameLog old now
  pub bytes : List ℕ
  pub is : bytes ++ rest ≡ text
  pub answered : HasAnswered now bytes records

-- what is answered where no fault came before
pub piece_taken : {old new : Answering} {before records : List Record} {piece : List ℕ} (r : Result (Unit {0}) LogFault) → old.fault ≡ None → IsSameLog old new
    → MatchResult r (λ _. HasAnswered new (fed_text old before ++ piece) records)
    (λ fault. (new.fault ≡ Some fault) × IsSettled old.core old.cores (fed_text old before ++ piece) fault)
    → TakesPiece old before piece r new records
piece_taken r none same fed = record { core = same.core; cores = same.cores; fed = λ _. fed; again = rw none tt }

few_in : (q : Stage) (core cores : ℕ) (records : List Record) (line : List ℕ) → IsInRecords q → IsSound q core cores records line → length records ≤ operation_limit
few_in (stage.Records format) core cores records line at sound = sound.few
few_in q core cores records line at sound = absurd at

module _ {old mid : Answering} {records : List Record} {text rest : List ℕ} (so_far : TakesBut old mid records text rest)
    (new : Answering) (core : new.core ≡ mid.core) (cores : new.cores ≡ mid.cores) where
  pub still_same : IsSameLog old new
  still_same = record { core = core ∙ so_far.same.core; cores = cores ∙ so_far.same.cores }

  module _ (one : ℕ × Option Record) (answers : (bytes : List ℕ) (rs : List Record) → HasAnswered mid bytes rs → AnswersOne bytes rs rest one new) where
    answered : (o : Option Record) → one.1 ≡ o → AnswersOne so_far.bytes records rest (one.0, o) new
    answered o is = subst (λ (p : Option Record). AnswersOne so_far.bytes records rest (one.0, p) new) is (answers so_far.bytes records so_far.answered)

    module _ (r : Record) (is : one.1 ≡ Some r) where
      pub some_used : 0 < one.0
      some_used = (answered (Some r) is).0

      -- there was room for the record
      pub room_for : length records < operation_limit
      room_for =
          let next = answered (Some r) is in
          let few = few_in new.stage new.core new.cores (records ++ r ∷ []) new.begun next.3 next.1.sound in
          omega (arith, few, length-append records (r ∷ []))

      pub one_taken : (after : List ℕ) → after ≡ drop one.0 rest → TakesBut old new (records ++ r ∷ []) text after
      one_taken after after-is = record {
        same = still_same;
        bytes = so_far.bytes ++ take one.0 rest;
        is = append_assoc so_far.bytes (take one.0 rest) after ∙ ap (λ (xs : List ℕ). so_far.bytes ++ xs) (rw after-is (take-append-drop one.0 rest)) ∙ so_far.is;
        answered = (answered (Some r) is).1;
      }

    -- no record's line ends in the rest
    pub all_taken : one.1 ≡ None → HasAnswered new text records
    all_taken is = rw so_far.is at (answered None is).1

  -- the rest was refused
  pub rest_settled : (f : LogFault) → ((bytes : List ℕ) (rs : List Record) → HasAnswered mid bytes rs → (new.fault ≡ Some f) × IsSettled mid.core mid.cores (bytes ++ rest) f)
      → (new.fault ≡ Some f) × IsSettled old.core old.cores text f
  rest_settled f refused =
      let found = refused so_far.bytes records so_far.answered in
      let settled = same_log (λ core cores. IsSettled core cores (so_far.bytes ++ rest) f) so_far.same.core so_far.same.cores found.1 in
      (found.0, rw so_far.is at settled)
