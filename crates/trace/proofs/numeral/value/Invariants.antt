use Rattle.std.proofs.Common.{◌≡◌, ◌<◌, ◌^◌, length}
use Rattle.trace.specs.inner.Reading.{onward}
use Rattle.trace.proofs.numeral.value.Given as goal

abbrev pub invariant-loop-rest : goal.invariant-loop-rest
invariant-loop-rest l = (l.value < 2 ^ 64) × (onward l.base l.value l.rest ≡ onward l.base 0 l.fn.bytes)

abbrev pub decreases-loop-rest : goal.decreases-loop-rest
decreases-loop-rest l = length l.rest
