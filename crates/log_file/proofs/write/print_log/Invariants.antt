-- The text has the header and the records so far.
use Rattle.std.proofs.Common.{◌≡◌, take}
use Rattle.std.specs.Prelude.{string_bytes}
use Rattle.std.specs.List.{AllByRecursion}
use Rattle.log_record.specs.Line.{FitsIn}
use Rattle.log_file.specs.Log.{begun, text_of}
use Rattle.log_file.proofs.write.print_log.Given as goal

abbrev pub invariant-loop-logged : goal.invariant-loop-logged
invariant-loop-logged l = record {
  text : string_bytes l.text ≡ text_of (begun l.fn.format l.fn.core l.cores (take l.logged-index l.records));
  fits : AllByRecursion (FitsIn l.fn.format) (take l.logged-index l.records);
}
