-- How the readers of a log keep what they were fed.
use Rattle.std.specs.Prelude.{◌≡◌, List, ℕ, Result, Ok, Err, Option, None, Some}
use Rattle.log_record.specs.declared.record.Record.{Record}
use Rattle.log_file.specs.declared.fault.LogFault.{LogFault}
use Rattle.log_file.specs.declared.log_reader.LogReader.TheInside.{Inside}
use Rattle.log_file.specs.Answering.{Answering, HasAnswered, fed_text}
use Rattle.log_file.specs.Feeding.{Feeding}

abbrev pub fed_of : Option LogFault → List ℕ → Result (List ℕ) LogFault
fed_of None bytes = Ok bytes
fed_of (Some fault) bytes = Err fault

abbrev pub feeding_of : Inside → Feeding
feeding_of a = record {
  core = a.reader.core;
  cores = a.reader.cores;
  fed = fed_of a.reader.fault (fed_text a.reader a.records.items);
}

-- if no fault came, the records are those that the reader has answered
abbrev pub KeepsRecords : Answering → List Record → Type 0
KeepsRecords s records = s.fault ≡ None → HasAnswered s (fed_text s records) records

abbrev pub IsKept : Inside → Type 0
IsKept a = KeepsRecords a.reader a.records.items
