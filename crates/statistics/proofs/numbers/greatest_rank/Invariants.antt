-- The greatest so far is that of the records so far.
use Rattle.std.proofs.Common.{◌≡◌, take}
use Rattle.statistics.specs.Numbers.{greatest_rank}
use Rattle.statistics.proofs.numbers.greatest_rank.Given as goal

abbrev pub invariant-loop-record : goal.invariant-loop-record
invariant-loop-record l = l.most ≡ greatest_rank (take l.record-index l.log)
