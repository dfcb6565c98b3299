-- How long the bytes are that are read before a fault comes.
use Rattle.std.proofs.Common.{◌≡◌, ℕ, ◌+◌, ◌-◌, ◌*◌, ◌^◌, ◌<◌, ◌≤◌, List, [], ◌∷◌, ◌++◌, length, map, ap, arith, length-append}
use Rattle.std.specs.List.{AllByRecursion}
use Rattle.log_record.specs.declared.format.Format.{Format}
use Rattle.log_record.specs.declared.record.Record.{Record}
use Rattle.log_record.specs.Line.{format_number, record_text, header_text, end_text, FitsIn, limit_of}
use Rattle.log_record.proofs.Lines.{record_short, header_short, end_short}
use Rattle.log_file.specs.declared.stage.Stage.{Stage}
use Rattle.log_file.specs.declared.stage.Stage.TheVariants as stage
use Rattle.log_file.specs.Log.{with_lf, begun, text_of, IsLog}
use Rattle.log_file.specs.Answering.{Answering, HasAnswered}
use Rattle.log_file.specs.Standing.{IsSound, limit_at, whole_text}
use Rattle.log_file.proofs.Lines.{spelling_is}

limit_few : (format : Format) → limit_of format ≤ 96
limit_few format = grind arith

limit_at_few : (q : Stage) → limit_at q ≤ 96
limit_at_few q = grind arith

line_long : (l bytes : List ℕ) → length (with_lf l ++ bytes) ≡ length l + 1 + length bytes
line_long l bytes = omega (arith, length-append (with_lf l) bytes, length-append l (10 ∷ []))

records_long : (format : Format) (records : List Record) → AllByRecursion (FitsIn format) records
    → length (text_of (map record_text records)) ≤ 97 * length records
records_long format [] all = omega arith
records_long format (r ∷ records) all =
    let rest = text_of (map record_text records) in
    omega (arith, line_long (record_text r) rest, record_short format r all.0, limit_few format, records_long format records all.1)

begun_long : (format : Format) (core cores : ℕ) (records : List Record) → IsLog format core cores records
    → length (text_of (begun format core cores records)) ≤ 97 * length records + 81
begun_long format core cores records log =
    let short = header_short format core cores log.core_fits (omega (arith, log.cores_fit)) in
    let first = line_long (header_text (format_number format) core cores) (text_of (map record_text records)) in
    omega (arith, first, short, records_long format records log.each_fits)

whole_long : (q : Stage) (core cores : ℕ) (records : List Record) (line : List ℕ) → IsSound q core cores records line
    → length (whole_text q core cores records) < 2 ^ 27 - 100
whole_long stage.Header core cores records line sound = omega arith
whole_long (stage.Records format) core cores records line sound = omega (arith, begun_long format core cores records sound, sound.few)
whole_long (stage.Ended format) core cores records line (log, none) =
    let whole = ap length (spelling_is format core cores records) in
    let long = length-append (text_of (begun format core cores records)) (with_lf (end_text (length records))) in
    let short = end_short (length records) log.few in
    omega (arith, whole, long, length-append (end_text (length records)) (10 ∷ []), begun_long format core cores records log, short, log.few)

pub read_long : (s : Answering) (bytes : List ℕ) (records : List Record) → HasAnswered s bytes records → length bytes < 2 ^ 27
read_long s bytes records h =
    let whole = whole_text s.stage s.core s.cores records in
    omega (arith, ap length h.text, length-append whole s.begun, h.short, limit_at_few s.stage, whole_long s.stage s.core s.cores records s.begun h.sound)
