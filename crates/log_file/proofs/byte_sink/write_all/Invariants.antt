-- What the sink took so far is the front of the bytes.
use Rattle.std.proofs.Common.{length, ◌-◌, ◌≡◌, ◌≤◌, take}
use Rattle.std.specs.Io.KnownBytes.{Appends}
use Rattle.log_file.proofs.byte_sink.write_all.Given as goal

abbrev pub invariant-loop-at : goal.invariant-loop-at
invariant-loop-at g l = record {
  within : l.at ≤ length l.bytes;
  taken : Appends (g.W.ByteSink.contents l.fn.sink) (g.W.ByteSink.contents l.sink) (take l.at l.bytes);
  quiet : g.W.ByteSink.failed l.sink ≡ g.W.ByteSink.failed l.fn.sink;
}

abbrev pub decreases-loop-at : goal.decreases-loop-at
decreases-loop-at g l = length l.bytes - l.at
