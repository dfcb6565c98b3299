-- What a line, or a part of one, does to where a reader stands.
use Rattle.std.proofs.Common.{◌≡◌, ℕ, eqb, false, ◌+◌, ◌<◌, ◌≤◌, List, [], ◌∷◌, ◌++◌, length, Option, None, Some, refl, sym, ap, subst, ◌∙◌, arith, inl, inr, append_assoc, append-nil, length-append}
use Rattle.std.proofs.lemmas.List.Elements.{All-append, All-nil}
use Rattle.log_record.specs.declared.format.Format.{Format}
use Rattle.log_record.specs.declared.record.Record.{Record}
use Rattle.log_file.specs.declared.fault.FormatFault.TheVariants.{BadHeader, BadLine, Truncated}
use Rattle.log_file.specs.declared.fault.LogFault.{LogFault}
use Rattle.log_file.specs.declared.fault.LogFault.TheVariants.{At}
use Rattle.log_file.specs.declared.stage.Stage.{Stage}
use Rattle.log_file.specs.declared.stage.Stage.TheVariants as stage
use Rattle.log_file.specs.Answering.{Answering, HasAnswered}
use Rattle.log_file.specs.Log.{IsFirstFault, Spells, begun, text_of, spelling, with_lf, lines_of}
use Rattle.log_file.specs.Feeding.{IsSettled}
use Rattle.log_file.specs.OneLine.{IsOneLine}
use Rattle.log_file.specs.Standing.{IsInRecords, IsSound, limit_at, whole_text}
use Rattle.log_file.specs.inner.NextLine.{BehindAt, IsLineRefused, IsPartRefused, IsTooFar, RefusedAt, TakesLine, TooFarAt, count_with, fault_of_more, with_read}
use Rattle.log_file.proofs.Front.{body_cut, body_refused, header_cut, header_refused, some_line}
use Rattle.log_file.proofs.Lines.{begun_push, fits_push, lines_of_front, spelling_is}
use Rattle.log_file.proofs.OneLine.{bad_least, header_bad}
use Rattle.log_file.proofs.Settled.{lines_begin, settled_front, trailing_settled}

-- ---- a whole line

-- where a reader stands after a line, if its records are then `after`
abbrev Taken : Stage → Answering → List ℕ → List Record → List Record → Stage → ℕ → Type 0
Taken q old line records after next count =
    IsSound next old.core old.cores after []
    × (count ≡ length after)
    × (whole_text next old.core old.cores after ≡ whole_text q old.core old.cores records ++ with_lf line)

-- a record's line leaves the reader among the records
pub last_read : (q next : Stage) (old : Answering) (line : List ℕ) (r : Record) → BehindAt q old line (Some r) next → IsInRecords next
last_read (stage.Records format) next old line r (is, fits, few, next-is) = rw next-is tt
last_read q next old line r behind = absurd behind

pub line_taken : (q : Stage) (old : Answering) (line part : List ℕ) (r : Option Record) (records : List Record) (next : Stage)
    → IsSound q old.core old.cores records part → old.count ≡ length records → BehindAt q old line r next
    → Taken q old line records (with_read records r) next (count_with old.count r)
line_taken stage.Header old line part None records next sound count (format, (is, lt, most), next-is) = rw (next-is, is, sound) (
  record { core_fits = lt; cores_fit = most; few = omega arith; each_fits = tt },
  count ∙ ap length sound,
  append-nil _,
)
line_taken (stage.Records format) old line part None records next sound count (is, next-is) =
    rw (next-is, is, count) ((sound, refl), refl, spelling_is format old.core old.cores records)
line_taken (stage.Records format) old line part (Some r) records next sound count (is, fits, few, next-is) = rw (next-is, is) (
  record {
    core_fits = sound.core_fits;
    cores_fit = sound.cores_fit;
    few = omega (arith, length-append records (r ∷ []));
    each_fits = fits_push format records r sound.each_fits fits;
  },
  omega (arith, length-append records (r ∷ [])),
  begun_push format old.core old.cores records r,
)
line_taken q old line part r records next sound count h = absurd h

pub line_refused : (q : Stage) (p : Answering) (line part : List ℕ) (f : LogFault) (records : List Record)
    → IsSound q p.core p.cores records part → p.count ≡ length records → IsOneLine line → RefusedAt q p.core p.cores p.count line f
    → IsSettled p.core p.cores (whole_text q p.core p.cores records ++ with_lf line) f
line_refused stage.Header p line part (At k f) records sound count one (at, found) = λ more.
    rw at (header_refused p.core p.cores (with_lf line ++ more) line (lines_of more) f (lines_of_front line more one) found (inl (some_line more)))
line_refused (stage.Records format) p line part (At k f) records sound count one (at, found) = λ more.
    rw (at, count, append_assoc (text_of (begun format p.core p.cores records)) (with_lf line) more)
    (body_refused sound (with_lf line ++ more) line (lines_of more) f (lines_of_front line more one) (rw count at found) (inl (some_line more)))
line_refused (stage.Ended format) p line part (At k f) records sound count one (at, is) = λ more.
    rw (at, is, count, append_assoc (spelling format p.core p.cores records) (with_lf line) more)
    (trailing_settled sound.0 (with_lf line ++ more) (omega (arith, length-append (with_lf line) more, length-append line (10 ∷ []))))
line_refused q p line part f records sound count one h = absurd h

-- ---- a line that goes on too far

pub goes_too_far : (q : Stage) (core cores count : ℕ) (line part : List ℕ) (records : List Record)
    → IsSound q core cores records line → count ≡ length records → IsOneLine (line ++ part) → TooFarAt q line part
    → IsSettled core cores (whole_text q core cores records ++ (line ++ part)) (fault_of_more q count)
goes_too_far stage.Header core cores count line part records sound count-is one (inl long) = λ more.
    let b = lines_begin (line ++ part) more one in
    let far : limit_at stage.Header < length ((line ++ part) ++ b.0) = omega (arith, length-append (line ++ part) b.0) in
    header_refused core cores ((line ++ part) ++ more) ((line ++ part) ++ b.0) b.1.0 BadHeader b.1.1
    (header_bad core cores ((line ++ part) ++ b.0) (inl far)) (inr (refl, far))
goes_too_far (stage.Records format) core cores count line part records sound count-is one (inl long) = λ more.
    let b = lines_begin (line ++ part) more one in
    let far : limit_at (stage.Records format) < length ((line ++ part) ++ b.0) = omega (arith, length-append (line ++ part) b.0) in
    rw (count-is, append_assoc (text_of (begun format core cores records)) (line ++ part) more)
    (body_refused sound ((line ++ part) ++ more) ((line ++ part) ++ b.0) b.1.0 BadLine b.1.1
    (bad_least format (length records) ((line ++ part) ++ b.0) (inl far)) (inr (refl, far)))
goes_too_far (stage.Ended format) core cores count line part records sound count-is one far = λ more.
    let some : 0 < length (line ++ part) = elim far [ inl long ↦ omega arith | inr p ↦ omega (arith, p.1, length-append line part) ] in
    rw (count-is, append_assoc (spelling format core cores records) (line ++ part) more)
    (trailing_settled sound.0 ((line ++ part) ++ more) (omega (arith, length-append (line ++ part) more)))
goes_too_far q core cores count line part records sound count-is one (inr p) = absurd p.0

-- ---- a part of a line, and its last part

-- a part without a line feed
stays_sound : (q : Stage) (core cores : ℕ) (line part : List ℕ) (records : List Record)
    → IsSound q core cores records line → (TooFarAt q line part → ⊥) → IsSound q core cores records (line ++ part)
stays_sound q core cores line [] records sound fits = rw append-nil sound
stays_sound q core cores line (b ∷ part) records sound fits = grind arith

module _ {s : Answering} {bytes : List ℕ} {records : List Record} (had : HasAnswered s bytes records) (part : List ℕ) (one : IsOneLine part) where
  abbrev whole : List ℕ
  whole = whole_text s.stage s.core s.cores records

  joined : IsOneLine (s.begun ++ part)
  joined = All-append (λ b. eqb b 10 ≡ false) s.begun part had.one one

  pub takes_part : (IsTooFar s part → ⊥) → HasAnswered (record s { begun = s.begun ++ part }) (bytes ++ part) records
  takes_part fits = record {
    faultless = had.faultless;
    text = ap (λ (xs : List ℕ). xs ++ part) had.text ∙ append_assoc whole s.begun part;
    sound = stays_sound s.stage s.core s.cores s.begun part records had.sound fits;
    count = had.count;
    one = joined;
    short = grind arith;
  }

  pub part_refused : (f : LogFault) → IsPartRefused s part f → IsSettled s.core s.cores (bytes ++ part) f
  part_refused f (far, f-is) =
      rw (f-is, had.text, append_assoc whole s.begun part)
      (goes_too_far s.stage s.core s.cores s.count s.begun part records had.sound had.count joined far)

  pub takes_line : (new : Answering) (r : Option Record) → TakesLine s part r new → HasAnswered new (bytes ++ with_lf part) (with_read records r)
  takes_line new r (behind, new-is) =
      let taken = line_taken s.stage s (s.begun ++ part) s.begun r records new.stage had.sound had.count behind in
      subst (λ (a : Answering). HasAnswered a (bytes ++ with_lf part) (with_read records r)) (sym new-is) (record {
        faultless = had.faultless;
        text = rw (had.text, append-nil, taken.2) (simp append_assoc);
        sound = taken.0;
        count = taken.1;
        one = All-nil (λ b. eqb b 10 ≡ false);
        short = omega arith;
      })

  pub last_part_refused : (f : LogFault) → IsLineRefused s part f → IsSettled s.core s.cores (bytes ++ with_lf part) f
  last_part_refused f (inl refused) =
      let same : whole ++ with_lf (s.begun ++ part) ≡ bytes ++ with_lf part = rw had.text (simp append_assoc) in
      rw (← same) (line_refused s.stage s (s.begun ++ part) s.begun f records had.sound had.count joined refused)
  last_part_refused f (inr far) =
      rw (← (append_assoc bytes part (10 ∷ []))) (settled_front s.core s.cores (bytes ++ part) (10 ∷ []) f (part_refused f far))

-- ---- the end of the bytes

pub ended_spells : (format : Format) (core cores : ℕ) (records : List Record) (line : List ℕ) → IsSound (stage.Ended format) core cores records line
    → Spells core cores (spelling format core cores records ++ line) records
ended_spells format core cores records line sound = (format, (sound.0, rw (sound.1, append-nil) refl))

-- what the bytes are that end in this line
abbrev pub EndsAt : Stage → ℕ → ℕ → ℕ → List ℕ → List Record → Type 0
EndsAt stage.Header core cores count bytes records = IsFirstFault core cores bytes 1 Truncated
EndsAt (stage.Records format) core cores count bytes records = IsFirstFault core cores bytes (count + 2) Truncated
EndsAt (stage.Ended format) core cores count bytes records = Spells core cores bytes records

pub ends_at : (q : Stage) (core cores count : ℕ) (line : List ℕ) (records : List Record) → IsSound q core cores records line → count ≡ length records
    → IsOneLine line → length line ≤ limit_at q → EndsAt q core cores count (whole_text q core cores records ++ line) records
ends_at stage.Header core cores count line records sound count-is one short = header_cut core cores line one short
ends_at (stage.Records format) core cores count line records sound count-is one short = rw count-is (body_cut sound line one short)
ends_at (stage.Ended format) core cores count line records sound count-is one short = ended_spells format core cores records line sound

pub ends : {s : Answering} {bytes : List ℕ} {records : List Record} → HasAnswered s bytes records → (q : Stage) → s.stage ≡ q
    → EndsAt q s.core s.cores s.count bytes records
ends {s = s} {bytes = bytes} {records = records} had q at =
    subst (λ (k : Stage). EndsAt k s.core s.cores s.count bytes records) at
    (rw had.text (ends_at s.stage s.core s.cores s.count s.begun records had.sound had.count had.one had.short))
