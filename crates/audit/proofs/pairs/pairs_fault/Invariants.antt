use Rattle.std.proofs.Common.{ℕ, ◌<◌, length}
use Rattle.audit.specs.Lists.{transcripts, histories}
use Rattle.audit.specs.Pairs.{PairAgrees}
use Rattle.audit.proofs.pairs.pairs_fault.Given as goal

abbrev pub invariant-loop-core : goal.invariant-loop-core
invariant-loop-core l = (c s : ℕ) → c < l.core → s < length l.slices → PairAgrees (transcripts l.units) (histories l.slices) c s
