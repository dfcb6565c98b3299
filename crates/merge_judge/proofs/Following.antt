-- A log followed record by record.
use Rattle.std.proofs.Common.{◌≡◌, ℕ, ◌+◌, ◌-◌, ◌<◌, ◌≤◌, ◌^◌, List, [], ◌∷◌, ◌++◌, length, take, drop, Option, None, Some, Ok, refl, sym, ap, subst, ◌∙◌, arith, append_assoc, append-nil, length-append}
use Rattle.std.specs.Io.KnownBytes.{Consumes, IsAtEnd}
use Rattle.std.proofs.lemmas.List.{take-append-drop, drop-drop, drop_all, drop-take}
use Rattle.log_record.specs.declared.record.Record.{Record}
use Rattle.log_file.specs.declared.fault.LogFault.{LogFault}
use Rattle.log_file.specs.declared.fault.LogFault.TheVariants.{At, OutOfMemory, Read}
use Rattle.log_file.specs.Answering.{Answering, AnswersOne, HasAnswered}
use Rattle.log_file.specs.Answers.{IsFaultOf, IsFaultOrDevice}
use Rattle.log_file.specs.Devices.{Tells}
use Rattle.log_file.specs.Feeding.{IsSettled}
use Rattle.log_file.specs.Log.{Spells}
use Rattle.log_file.proofs.Bounded.{read_long}
use Rattle.log_file.proofs.Devices.{told, consumes_more, consumes_told, consumes_end}
use Rattle.log_file.proofs.Fed.{same_log, text_fault}
use Rattle.merge_judge.specs.Begun.{BeginsLog}
use Rattle.merge_judge.specs.OpenedLog.{OpenedLog}
use Rattle.merge_judge.specs.inner.Following.{EndsAt, EndsWhole, Follows, TakesOne}
use Rattle.merge_judge.proofs.Begins.{begins_there}

-- ---- one record of the bytes that were read

-- what is left where some were used
left_over : (piece : List ℕ) (used filled count : ℕ) → used ≤ filled → count ≤ filled - used
    → drop count (take (filled - used) (drop used piece)) ≡ take (filled - (used + count)) (drop (used + count) piece)
left_over piece used filled count within few =
    let split : filled - used ≡ count + (filled - (used + count)) = omega arith in
    ap (λ n. drop count (take n (drop used piece))) split
    ∙ drop-take count (filled - (used + count)) (drop used piece)
    ∙ ap (take (filled - (used + count))) (drop-drop count used piece)

module _ (bytes : List ℕ) (records : List Record) (old new : Answering) (piece : List ℕ) (used filled : ℕ) (within : used ≤ filled) where
  abbrev unused : List ℕ
  unused = take (filled - used) (drop used piece)

  pub one_taken : (count : ℕ) (logged : Option Record) → count ≤ filled - used → AnswersOne bytes records unused (count, logged) new
      → TakesOne bytes records (record { reader = old; unused = unused }) (Ok logged)
      (record { reader = new; unused = take (filled - (used + count)) (drop (used + count) piece) })
  one_taken count None few (all, answered) = (sym (left_over piece used filled count within few) ∙ drop_all count unused (omega (arith, all)), answered)
  one_taken count (Some r) few (some, answered, none, last) = (
    take count unused,
    ap (λ xs. take count unused ++ xs) (sym (left_over piece used filled count within few)) ∙ take-append-drop count unused,
    answered,
  )

-- ---- the log

settled_holds : (core cores : ℕ) (front rest : List ℕ) (f : LogFault) → IsSettled core cores front f → IsFaultOrDevice core cores (front ++ rest) f
settled_holds core cores front rest (At k f) h = h rest
settled_holds core cores front rest OutOfMemory h = tt
settled_holds core cores front rest Read h = absurd h

module _ {core cores : ℕ} {first still : Option (List ℕ)} {log : OpenedLog} {records : List Record} (h : Follows core cores first still log records) where
  abbrev text : List ℕ
  text = (h.bytes ++ log.unused) ++ told still

  tells_text : Tells first text
  tells_text = consumes_told first still (h.bytes ++ log.unused) h.given

  begins_so_far : BeginsLog core cores text records
  begins_so_far = begins_there core cores log.reader h.core_is h.cores_is h.bytes log.unused (told still) records h.answered

  -- the text that the log begins
  pub begun_text : (text : List ℕ) × Tells first text × BeginsLog core cores text records
  begun_text = (text, tells_text, begins_so_far)

  pub read_failed : EndsAt core cores first records Read
  read_failed = record { text = text; begins = begins_so_far; tells = tells_text; holds = tt }

  -- a fault of the bytes that were read
  pub refused_at : (f : LogFault) → ((bytes : List ℕ) (rs : List Record) → HasAnswered log.reader bytes rs → IsSettled log.reader.core log.reader.cores (bytes ++ log.unused) f) → EndsAt core cores first records f
  refused_at f settled = record {
    text = text;
    begins = begins_so_far;
    tells = tells_text;
    holds = settled_holds core cores (h.bytes ++ log.unused) (told still) f (same_log (λ c n. IsSettled c n (h.bytes ++ log.unused) f) h.core_is h.cores_is (settled h.bytes records h.answered));
  }

  -- one more record
  pub next_taken : (new : OpenedLog) (r : Record) → new.reader.core ≡ log.reader.core → new.reader.cores ≡ log.reader.cores
      → ((bytes : List ℕ) (rs : List Record) → HasAnswered log.reader bytes rs → TakesOne bytes rs log (Ok (Some r)) new) → Follows core cores first still new (records ++ r ∷ [])
  next_taken new r same_core same_cores takes =
      let t = takes h.bytes records h.answered in
      record {
        core_is = same_core ∙ h.core_is;
        cores_is = same_cores ∙ h.cores_is;
        bytes = h.bytes ++ t.0;
        answered = t.2;
        given = subst (λ xs. Consumes first still xs) (ap (λ xs. h.bytes ++ xs) (sym t.1) ∙ sym (append_assoc h.bytes t.0 new.unused)) h.given;
      }

  -- after all bytes that were read, one more piece
  pub filled_more : (mid new : OpenedLog) (further : Option (List ℕ)) → mid.reader.core ≡ log.reader.core → mid.reader.cores ≡ log.reader.cores
      → ((bytes : List ℕ) (rs : List Record) → HasAnswered log.reader bytes rs → TakesOne bytes rs log (Ok None) mid)
      → new.reader ≡ mid.reader → Consumes still further new.unused → Follows core cores first further new records
  filled_more mid new further same_core same_cores takes same given =
      let t = takes h.bytes records h.answered in
      record {
        core_is = ap (λ (s : Answering). s.core) same ∙ same_core ∙ h.core_is;
        cores_is = ap (λ (s : Answering). s.cores) same ∙ same_cores ∙ h.cores_is;
        bytes = h.bytes ++ log.unused;
        answered = rw same t.1;
        given = consumes_more first still further (h.bytes ++ log.unused) new.unused h.given given;
      }

  -- the end of the source
  module _ (at_end : IsAtEnd still) (none : log.unused ≡ []) where
    tells_bytes : Tells first h.bytes
    tells_bytes = consumes_end first still h.bytes (subst (λ xs. Consumes first still xs) (ap (λ xs. h.bytes ++ xs) none ∙ append-nil h.bytes) h.given) at_end

    pub ends_whole : ((bytes : List ℕ) (rs : List Record) → HasAnswered log.reader bytes rs → Spells log.reader.core log.reader.cores bytes rs) → EndsWhole core cores first records
    ends_whole spells = record {
      text = h.bytes;
      tells = tells_bytes;
      spells = same_log (λ c n. Spells c n h.bytes records) h.core_is h.cores_is (spells h.bytes records h.answered);
    }

    pub ends_at : (f : LogFault) → ((bytes : List ℕ) (rs : List Record) → HasAnswered log.reader bytes rs → IsFaultOf log.reader.core log.reader.cores bytes f) → EndsAt core cores first records f
    ends_at f holds = record {
      text = h.bytes;
      begins = subst (λ xs. BeginsLog core cores xs records) (append-nil (h.bytes ++ []) ∙ append-nil h.bytes) (begins_there core cores log.reader h.core_is h.cores_is h.bytes [] [] records h.answered);
      tells = tells_bytes;
      holds = (text_fault core cores h.bytes f (same_log (λ c n. IsFaultOf c n h.bytes f) h.core_is h.cores_is (holds h.bytes records h.answered))).0;
    }

-- ---- that the search for a record ends

-- so many times was the source read in the search, and no fault came
pub record HasRead (log : OpenedLog) (reads : ℕ) : Type 0 where
  pub bytes : List ℕ
  pub records : List Record
  pub answered : HasAnswered log.reader bytes records
  pub few : reads ≤ length bytes + length log.unused

module _ {log : OpenedLog} {reads : ℕ} (h : HasRead log reads) (mid : OpenedLog) (takes : (bytes : List ℕ) (rs : List Record) → HasAnswered log.reader bytes rs → TakesOne bytes rs log (Ok None) mid) where
  fed : (new : OpenedLog) → new.reader ≡ mid.reader → HasAnswered new.reader (h.bytes ++ log.unused) h.records
  fed new same = rw same (takes h.bytes h.records h.answered).1

  pub read_more : (new : OpenedLog) → new.reader ≡ mid.reader → 1 ≤ length new.unused → HasRead new (reads + 1)
  read_more new same some = record {
    bytes = h.bytes ++ log.unused;
    records = h.records;
    answered = fed new same;
    few = omega (arith, h.few, some, length-append h.bytes log.unused);
  }

  pub read_few : reads < 2 ^ 27
  read_few = omega (arith, read_long mid.reader (h.bytes ++ log.unused) h.records (fed mid refl), h.few, length-append h.bytes log.unused)

  -- a fault at the end is one of the text
  pub not_read : (new : OpenedLog) (f : LogFault) → new.reader ≡ mid.reader → ((bytes : List ℕ) (rs : List Record) → HasAnswered new.reader bytes rs → IsFaultOf new.reader.core new.reader.cores bytes f) → f ≡ Read → ⊥
  not_read new f same ends = (text_fault new.reader.core new.reader.cores (h.bytes ++ log.unused) f (ends (h.bytes ++ log.unused) h.records (fed new same))).1
