-- The text that records would have as a log, and how much of it was given.
use Rattle.std.specs.Prelude.{◌<◌, ◌≤◌, ℕ, Bool, true, false, List, [], ◌∷◌, ◌++◌, None, drop, length, map}
use Rattle.log_record.specs.declared.format.Format.TheVariants.{Two}
use Rattle.log_record.specs.declared.record.Record.{Record}
use Rattle.log_record.specs.Line.{end_text, record_text}
use Rattle.log_file.specs.declared.stage.Stage.TheVariants.{Records}
use Rattle.log_file.specs.Log.{spelling, text_of}
use Rattle.merge_judge.specs.LaneParts.{KeptLog}
use Rattle.merge_judge.specs.Records.{AreOfLog}

-- the lines of the records from this index on, and the last line
abbrev pub lines_from : List Record → ℕ → List ℕ
lines_from records at = text_of (map record_text (drop at records)) ++ text_of (end_text (length records) ∷ [])

-- a log whose header and first `at` records were read, and which holds the rest
abbrev pub kept_at : ℕ → ℕ → List Record → ℕ → KeptLog
kept_at core cores records at = record {
  log = record {
    reader = record { core = core; cores = cores; stage = Records Two; count = at; begun = []; fault = None };
    unused = lines_from records at;
  };
  whole = true;
}

-- what a source of records tells: the whole text until it is handed over, and then nothing
abbrev pub text_left : ℕ → ℕ → List Record → Bool → List ℕ
text_left core cores records true = []
text_left core cores records false = spelling Two core cores records

-- a log of this core may have the records
pub record IsOfCore (core cores : ℕ) (records : List Record) : Type 0 where
  pub core_fits : core < cores
  pub cores_fit : cores ≤ 64
  pub of_log : AreOfLog records
