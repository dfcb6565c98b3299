-- The bytes that were read were all taken, and no read failed.
use Rattle.std.proofs.Common.{◌≡◌, ◌-◌, ◌<◌, ◌^◌, length, vec_len}
use Rattle.std.specs.Io.KnownBytes.{Consumes}
use Rattle.log_file.specs.Answering.{HasAnswered, fed_text}
use Rattle.log_file.proofs.one_log.read_list.Given as goal

abbrev pub invariant-pieces : goal.invariant-pieces
invariant-pieces g l = record {
  answered : HasAnswered l.reader (fed_text l.reader (g.L.RecordList.records l.list)) (g.L.RecordList.records l.list);
  core : l.reader.core ≡ l.fn.reader.core;
  cores : l.reader.cores ≡ l.fn.reader.cores;
  read : Consumes (g.S.ByteSource.remaining l.fn.source) (g.S.ByteSource.remaining l.source) (fed_text l.reader (g.L.RecordList.records l.list));
  quiet : g.S.ByteSource.failed l.source ≡ g.S.ByteSource.failed l.fn.source;
  base : g.L.RecordList.base l.list ≡ g.L.RecordList.base l.fn.list;
  room : 0 < vec_len l.buffer;
}

abbrev pub decreases-pieces : goal.decreases-pieces
decreases-pieces g l = 2 ^ 27 - length (fed_text l.reader (g.L.RecordList.records l.list))
