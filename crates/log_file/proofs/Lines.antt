-- The lines of a text.
use Rattle.std.proofs.Common.{◌≡◌, ◌<◌, ◌⊎◌, ℕ, List, [], ◌∷◌, ◌++◌, length, map, eqb, refl, sym, ap, ◌∙◌, arith, append_assoc, append-nil}
use Rattle.std.specs.List.{AllByRecursion, join_with_byte}
use Rattle.std.proofs.lemmas.Grind.{flat_map-append}
use Rattle.std.proofs.lemmas.List.{map-append}
use Rattle.std.proofs.lemmas.List.Splits.{slice_split_at, slice_split_none, join_with_byte-slice_split}
use Rattle.log_record.specs.declared.format.Format.{Format}
use Rattle.log_record.specs.declared.record.Record.{Record}
use Rattle.log_record.specs.Line.{format_number, record_text, end_text, FitsIn}
use Rattle.log_record.proofs.Lines.{NoLf, NoLf-all, record_no_lf, header_no_lf, end_no_lf}
use Rattle.log_file.specs.Log.{with_lf, begun, text_of, spelling, lines_of}
use Rattle.log_file.specs.OneLine.{IsOneLine}

pub lines_of_line : (xs ys : List ℕ) → IsOneLine xs → lines_of (xs ++ 10 ∷ ys) ≡ xs ∷ lines_of ys
lines_of_line xs ys p = slice_split_at (λ b. eqb b 10) xs 10 ys p refl

pub lines_of_last : (xs : List ℕ) → IsOneLine xs → lines_of xs ≡ xs ∷ []
lines_of_last xs p = slice_split_none (λ b. eqb b 10) xs p

pub lines_of_front : (l more : List ℕ) → IsOneLine l → lines_of (with_lf l ++ more) ≡ l ∷ lines_of more
lines_of_front l more one = ap lines_of (append_assoc l (10 ∷ []) more) ∙ lines_of_line l more one

pub lines_of_end : (n : ℕ) (more : List ℕ) → lines_of (end_text n ++ 10 ∷ more) ≡ end_text n ∷ lines_of more
lines_of_end n more = lines_of_line (end_text n) more (NoLf-all (end_text n) (end_no_lf n))

pub lines_of_text : (done : List (List ℕ)) (rest : List ℕ) → AllByRecursion NoLf done
    → lines_of (text_of done ++ rest) ≡ done ++ lines_of rest
lines_of_text [] rest all = refl
lines_of_text (d ∷ done) rest all =
    ap lines_of (append_assoc (with_lf d) (text_of done) rest) ∙ lines_of_front d (text_of done ++ rest) (NoLf-all d all.0)
    ∙ ap (λ (ls : List (List ℕ)). d ∷ ls) (lines_of_text done rest all.1)

records_no_lf : (records : List Record) → AllByRecursion NoLf (map record_text records)
records_no_lf [] = tt
records_no_lf (r ∷ records) = (record_no_lf r, records_no_lf records)

pub begun_no_lf : (format : Format) (core cores : ℕ) (records : List Record) → AllByRecursion NoLf (begun format core cores records)
begun_no_lf format core cores records = (header_no_lf (format_number format) core cores, records_no_lf records)

-- bytes have a line feed, or bytes in their last line
pub some_more : (bytes x : List ℕ) (xs : List (List ℕ)) → 0 < length bytes → lines_of bytes ≡ x ∷ xs → (0 < length x) ⊎ (0 < length xs)
some_more bytes x xs more e =
    let whole : join_with_byte 10 (x ∷ xs) ≡ bytes = ap (join_with_byte 10) (sym e) ∙ join_with_byte-slice_split 10 bytes in grind arith

-- ---- the text of a log

pub begun_push : (format : Format) (core cores : ℕ) (records : List Record) (r : Record)
    → text_of (begun format core cores (records ++ r ∷ [])) ≡ text_of (begun format core cores records) ++ with_lf (record_text r)
begun_push format core cores records r = simp (map-append, flat_map-append, append_assoc, append-nil)

pub spelling_text : (format : Format) (core cores : ℕ) (records : List Record) (rest : List ℕ)
    → spelling format core cores records ++ rest ≡ text_of (begun format core cores records) ++ (end_text (length records) ++ 10 ∷ rest)
spelling_text format core cores records rest = simp (flat_map-append, append_assoc, append-nil)

pub spelling_is : (format : Format) (core cores : ℕ) (records : List Record)
    → spelling format core cores records ≡ text_of (begun format core cores records) ++ with_lf (end_text (length records))
spelling_is format core cores records = simp (flat_map-append, append_assoc, append-nil)

pub fits_push : (format : Format) (records : List Record) (r : Record) → AllByRecursion (FitsIn format) records → FitsIn format r
    → AllByRecursion (FitsIn format) (records ++ r ∷ [])
fits_push format [] r all h = (h, tt)
fits_push format (q ∷ records) r all h = (all.0, fits_push format records r all.1 h)
