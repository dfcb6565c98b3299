-- The bytes so far are those that the source gave, and it hasn't failed.
use Rattle.std.proofs.Common.{◌≡◌, ◌-◌, ◌^◌, vec_len}
use Rattle.std.specs.Io.KnownBytes.{Consumes}
use Rattle.log_file.proofs.read.read_all.Given as goal

abbrev pub invariant-loop-found : goal.invariant-loop-found
invariant-loop-found g l = record {
  taken : Consumes (g.S.ByteSource.remaining l.initial.source) (g.S.ByteSource.remaining l.source) l.found.items;
  quiet : g.S.ByteSource.failed l.source ≡ g.S.ByteSource.failed l.initial.source;
}

abbrev pub decreases-loop-found : goal.decreases-loop-found
decreases-loop-found g l = 2 ^ 63 - vec_len l.found
