use Rattle.std.proofs.Common.{◌≡◌, ℕ, length}
use Rattle.decimal_text.specs.Numbers.{as_u64}
use Rattle.decimal_text.specs.Reading.{onward}
use Rattle.decimal_text.proofs.number.long_number.Given as goal

abbrev pub invariant-loop-rest : goal.invariant-loop-rest
invariant-loop-rest l = (n : ℕ) × (l.value ≡ as_u64 n) × (onward n l.rest ≡ onward l.fn.start l.fn.bytes)

abbrev pub decreases-loop-rest : goal.decreases-loop-rest
decreases-loop-rest l = length l.rest
