-- Where a reader stands in a log after the last whole line that it read.
use Rattle.std.specs.Prelude.{◌≡◌, ⊤, ℕ, List, []}
use Rattle.log_record.specs.declared.record.Record.{Record}
use Rattle.log_record.specs.Line.{line_limit, limit_of}
use Rattle.log_file.specs.declared.stage.Stage.{Stage}
use Rattle.log_file.specs.declared.stage.Stage.TheVariants as stage
use Rattle.log_file.specs.Log.{IsLog, begun, text_of, spelling}

-- the most bytes of the next line
abbrev pub limit_at : Stage → ℕ
limit_at stage.Header = line_limit
limit_at (stage.Records format) = limit_of format
limit_at (stage.Ended format) = limit_of format

-- the header or a record was read last
abbrev pub IsInRecords : Stage → Type 0
IsInRecords stage.Header = ⊥
IsInRecords (stage.Records format) = ⊤
IsInRecords (stage.Ended format) = ⊥

-- the end line was read last
abbrev pub IsEnded : Stage → Type 0
IsEnded stage.Header = ⊥
IsEnded (stage.Records format) = ⊥
IsEnded (stage.Ended format) = ⊤

-- the whole lines that were read, if these are the records in them
abbrev pub whole_text : Stage → ℕ → ℕ → List Record → List ℕ
whole_text stage.Header core cores records = []
whole_text (stage.Records format) core cores records = text_of (begun format core cores records)
whole_text (stage.Ended format) core cores records = spelling format core cores records

abbrev pub IsSound : Stage → ℕ → ℕ → List Record → List ℕ → Type 0
IsSound stage.Header core cores records line = records ≡ []
IsSound (stage.Records format) core cores records line = IsLog format core cores records
IsSound (stage.Ended format) core cores records line = IsLog format core cores records × (line ≡ [])
