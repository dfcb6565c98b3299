-- Laws of the texts of lines.
use Rattle.std.specs.Prelude.{◌≡◌, ◌≢◌, ℕ, ◌≤◌, length}
use Rattle.log_record.specs.declared.format.Format.{Format}
use Rattle.log_record.specs.declared.record.Record.{Record}
use Rattle.log_record.specs.Line.{record_text, header_text, end_text, FitsIn, limit_of}

-- no two records have the same line
abbrev pub OneRecordALine : Type 0
OneRecordALine = (q r : Record) → record_text q ≡ record_text r → q ≡ r

-- no record's line is a header or an end line, and no header is an end line
pub record NoLineIsAnothers : Type 0 where
  pub record_no_header : (r : Record) (format core cores : ℕ) → record_text r ≢ header_text format core cores
  pub record_no_end : (r : Record) (count : ℕ) → record_text r ≢ end_text count
  pub header_no_end : (format core cores count : ℕ) → header_text format core cores ≢ end_text count

-- the line of a record that a log of this format may have isn't longer than the format's limit
abbrev pub NoRecordIsLong : Type 0
NoRecordIsLong = (format : Format) (r : Record) → FitsIn format r → length (record_text r) ≤ limit_of format
