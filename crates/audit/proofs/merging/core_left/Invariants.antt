use Rattle.std.proofs.Common.{ℕ, ◌<◌, ◌≤◌, length, slice_index}
use Rattle.audit.specs.Lists.{transcripts, transcript_of}
use Rattle.audit.proofs.merging.core_left.Given as goal

abbrev pub invariant-loop-core : goal.invariant-loop-core
invariant-loop-core l = (k : ℕ) → k < l.core → length (transcript_of (transcripts l.units) k) ≤ slice_index l.cores k
