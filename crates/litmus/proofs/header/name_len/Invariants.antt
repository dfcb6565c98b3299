-- The bytes so far are a name's.
use Rattle.std.proofs.Common.{◌≡◌, ◌+◌, length}
use Rattle.litmus.specs.inner.Reading.{name_len}
use Rattle.litmus.proofs.header.name_len.Given as goal

abbrev pub invariant-loop-rest : goal.invariant-loop-rest
invariant-loop-rest l = record {
  same : name_len l.bytes ≡ l.count + name_len l.rest;
  taken : l.count + length l.rest ≡ length l.bytes;
}

abbrev pub decreases-loop-rest : goal.decreases-loop-rest
decreases-loop-rest l = length l.rest
