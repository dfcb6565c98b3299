use Rattle.std.proofs.Common.{◌≡◌, ◌<◌, length}
use Rattle.decimal_text.specs.Reading.{onward}
use Rattle.decimal_text.proofs.number.digits.Given as goal

abbrev pub invariant-loop-rest : goal.invariant-loop-rest
invariant-loop-rest l = (l.value < 10000000000000000000) × (onward l.value l.rest ≡ onward l.fn.start l.fn.bytes)

abbrev pub decreases-loop-rest : goal.decreases-loop-rest
decreases-loop-rest l = length l.rest
