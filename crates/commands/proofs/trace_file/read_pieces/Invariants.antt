-- The bytes that were read were fed, and no read failed.
use Rattle.std.proofs.Common.{◌≡◌, ◌<◌, ℕ, List, vec_len}
use Rattle.std.specs.Io.KnownBytes.{Consumes}
use Rattle.trace.specs.Reading.{WasFed}
use Rattle.commands.proofs.trace_file.read_pieces.Given as goal

abbrev pub invariant-pieces : goal.invariant-pieces
invariant-pieces g l = record {
  read : (bytes : List ℕ) × WasFed l.reader bytes × Consumes (g.S.ByteSource.remaining l.fn.source) (g.S.ByteSource.remaining l.source) bytes;
  quiet : g.S.ByteSource.failed l.source ≡ g.S.ByteSource.failed l.fn.source;
  room : 0 < vec_len l.buffer;
}
