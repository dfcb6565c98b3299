-- How a reader of records keeps where it stands.
use Rattle.std.specs.Prelude.{◌≤◌}
use Rattle.mem_op.specs.Limits.{operation_limit}
use Rattle.log_file.specs.declared.record_reader.RecordReader.TheInside.{Inside}
use Rattle.log_file.specs.Answering.{Answering}

abbrev pub answering_of : Inside → Answering
answering_of a = record {
  core = a.core;
  cores = a.cores;
  stage = a.stage;
  count = a.count;
  begun = a.begun.items;
  fault = a.fault;
}

-- no more records than a log may have
abbrev pub IsReading : Inside → Type 0
IsReading a = a.count ≤ operation_limit
