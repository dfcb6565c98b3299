use Rattle.std.proofs.Common.{◌≤◌, drop, length}
use Rattle.audit.specs.Lists.{transcripts, transcript_of}
use Rattle.audit.specs.Pairs.{serveds, gots}
use Rattle.audit.specs.inner.Fronts.{SameSoFar}
use Rattle.audit.proofs.pairs.pair_fault.Given as goal

abbrev pub invariant-loop-k : goal.invariant-loop-k
invariant-loop-k l =
    record {
      within : l.seen ≤ length l.history;
      place : l.place ≤ l.seen;
      same : SameSoFar (serveds l.core l.history) (gots l.count l.slice (transcript_of (transcripts l.units) l.core)) l.place (serveds l.core (drop l.seen l.history)) (gots l.count l.slice (drop l.k (transcript_of (transcripts l.units) l.core)));
    }
