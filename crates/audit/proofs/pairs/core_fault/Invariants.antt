use Rattle.std.proofs.Common.{ℕ, ◌<◌}
use Rattle.audit.specs.Lists.{transcripts, histories}
use Rattle.audit.specs.Pairs.{PairAgrees}
use Rattle.audit.proofs.pairs.core_fault.Given as goal

abbrev pub invariant-loop-slice : goal.invariant-loop-slice
invariant-loop-slice l = (s : ℕ) → s < l.slice → PairAgrees (transcripts l.units) (histories l.slices) l.core s
