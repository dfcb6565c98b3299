use Rattle.std.proofs.Common.{ℕ, ◌≡◌, ◌<◌, false, slice_index}
use Rattle.audit.specs.Lists.{transcripts, histories, transcript_of}
use Rattle.audit.specs.inner.Fronts.{AreFronts, goes_alone}
use Rattle.audit.proofs.merging.cores_on.Given as goal

abbrev pub invariant-loop-core : goal.invariant-loop-core
invariant-loop-core l = record {
  fronts : AreFronts (transcripts l.units) (histories l.slices) l.places.cores l.places.slices;
  alone : (c : ℕ) → c < l.core → goes_alone (transcript_of (transcripts l.units) c) (slice_index l.places.cores c) ≡ false;
}
