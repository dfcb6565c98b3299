-- What a text begins with.
use Rattle.std.specs.Prelude.{◌≡◌, ℕ, List, [], ◌∷◌, ◌++◌, length, map}
use Rattle.std.specs.List.{AllByRecursion}
use Rattle.std.proofs.Common.{◌∙◌, ap, inl, inr, arith, append_assoc, length-append}
use Rattle.std.proofs.lemmas.Grind.{flat_map-append}
use Rattle.std.proofs.lemmas.List.{map-append, nil_from_length}
use Rattle.log_record.specs.declared.format.Format.{Format}
use Rattle.log_record.specs.declared.record.Record.{Record}
use Rattle.log_record.specs.Line.{FitsIn, end_text, format_number, header_text, record_text}
use Rattle.log_file.specs.declared.stage.Stage.{Stage}
use Rattle.log_file.specs.declared.stage.Stage.TheVariants as last_read
use Rattle.log_file.specs.Answering.{Answering, HasAnswered}
use Rattle.log_file.specs.Log.{Spells, begun, text_of, with_lf}
use Rattle.log_file.specs.Standing.{IsSound, whole_text}
use Rattle.log_file.proofs.Fed.{same_log}
use Rattle.merge_judge.specs.Begun.{BeginsLog}

-- the lines of some records, and those of more
begun_more : (format : Format) (core cores : ℕ) (front back : List Record) → text_of (begun format core cores (front ++ back)) ≡ text_of (begun format core cores front) ++ text_of (map record_text back)
begun_more format core cores front back =
    ap (λ lines. text_of (header_text (format_number format) core cores ∷ lines)) (map-append record_text front back) ∙ flat_map-append with_lf (begun format core cores front) (map record_text back)

begins_sound : (stage : Stage) (core cores : ℕ) (records : List Record) (line more text : List ℕ) → IsSound stage core cores records line → text ≡ (whole_text stage core cores records ++ line) ++ more → BeginsLog core cores text records
begins_sound last_read.Header core cores records line more text h is = inl h
begins_sound (last_read.Records format) core cores records line more text h is = inr (format, (line ++ more, h, is ∙ append_assoc (text_of (begun format core cores records)) line more))
begins_sound (last_read.Ended format) core cores records line more text h is =
    inr (
      format,
      (
        text_of (end_text (length records) ∷ []) ++ (line ++ more),
        h.0,
        is ∙ append_assoc (text_of (begun format core cores records ++ end_text (length records) ∷ [])) line more
            ∙ ap (λ xs. xs ++ (line ++ more)) (flat_map-append with_lf (begun format core cores records) (end_text (length records) ∷ []))
            ∙ append_assoc (text_of (begun format core cores records)) (text_of (end_text (length records) ∷ [])) (line ++ more),
      ),
    )

-- the records that were answered
pub begins_there : (core cores : ℕ) (s : Answering) → s.core ≡ core → s.cores ≡ cores → (bytes unused still : List ℕ) (records : List Record) → HasAnswered s bytes records → BeginsLog core cores ((bytes ++ unused) ++ still) records
begins_there core cores s core_is cores_is bytes unused still records h =
    same_log (λ c n. BeginsLog c n ((bytes ++ unused) ++ still) records) core_is cores_is
    (begins_sound s.stage s.core s.cores records s.begun (unused ++ still) ((bytes ++ unused) ++ still) h.sound (append_assoc bytes unused still ∙ ap (λ xs. xs ++ (unused ++ still)) h.text))

-- a log that is spelled
pub begins_whole : (core cores : ℕ) (text : List ℕ) (records : List Record) → Spells core cores text records → BeginsLog core cores text records
begins_whole core cores text records h =
    inr (h.0, (text_of (end_text (length records) ∷ []), h.1.0, h.1.1 ∙ flat_map-append with_lf (begun h.0 core cores records) (end_text (length records) ∷ [])))

-- the first of the records
each_front : (P : Record → Type 0) (front back : List Record) → AllByRecursion P (front ++ back) → AllByRecursion P front
each_front P [] back h = tt
each_front P (r ∷ front) back h = (h.0, each_front P front back h.1)

pub begins_front : (core cores : ℕ) (text : List ℕ) (front back : List Record) → BeginsLog core cores text (front ++ back) → BeginsLog core cores text front
begins_front core cores text front back (inl none) = inl (nil_from_length front (omega (arith, ap length none, length-append front back)))
begins_front core cores text front back (inr (format, (rest, is_log, is))) = inr (
  format,
  (
    text_of (map record_text back) ++ rest,
    record {
      core_fits = is_log.core_fits;
      cores_fit = is_log.cores_fit;
      few = (let few = is_log.few in omega (arith, few, length-append front back));
      each_fits = each_front (FitsIn format) front back is_log.each_fits;
    },
    is ∙ ap (λ xs. xs ++ rest) (begun_more format core cores front back) ∙ append_assoc (text_of (begun format core cores front)) (text_of (map record_text back)) rest,
  ),
)
