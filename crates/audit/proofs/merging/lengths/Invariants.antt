use Rattle.std.proofs.Common.{ℕ, ◌<◌, ◌^◌, length}
use Rattle.audit.specs.Lists.{transcripts, histories, transcript_of, history_of}
use Rattle.audit.proofs.merging.lengths.Given as goal

abbrev pub invariant-loop-core : goal.invariant-loop-core
invariant-loop-core l = (c : ℕ) → c < l.core → length (transcript_of (transcripts l.units) c) < 2 ^ 64

abbrev pub invariant-loop-slice : goal.invariant-loop-slice
invariant-loop-slice l = record {
  cores : (c : ℕ) → c < 64 → length (transcript_of (transcripts l.units) c) < 2 ^ 64;
  slices : (s : ℕ) → s < l.slice → length (history_of (histories l.slices) s) < 2 ^ 64;
}
