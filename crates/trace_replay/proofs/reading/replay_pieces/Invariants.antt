-- The bytes that were read were fed, and no read failed.
use Rattle.std.proofs.Common.{◌≡◌, ℕ, List, vec_len}
use Rattle.std.specs.Io.KnownBytes.{Consumes}
use Rattle.trace_replay.specs.inner.Feeding.{WasFed}
use Rattle.trace_replay.proofs.reading.replay_pieces.Given as goal

abbrev pub invariant-pieces : goal.invariant-pieces
invariant-pieces g l = record {
  read : (bytes : List ℕ) × WasFed l.lines l.begun.items bytes × Consumes (g.S.ByteSource.remaining l.fn.source) (g.S.ByteSource.remaining l.source) bytes;
  quiet : g.S.ByteSource.failed l.source ≡ g.S.ByteSource.failed l.fn.source;
  room : vec_len l.buffer ≡ 65536;
}
