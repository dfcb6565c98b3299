use Rattle.std.proofs.Common.{◌≡◌, length}
use Rattle.trace.specs.inner.Reading.{skip}
use Rattle.trace.proofs.line.skip_blanks.Given as goal

abbrev pub invariant-loop-rest : goal.invariant-loop-rest
invariant-loop-rest l = skip l.rest ≡ skip l.fn.bytes

abbrev pub decreases-loop-rest : goal.decreases-loop-rest
decreases-loop-rest l = length l.rest
