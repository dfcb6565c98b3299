use Rattle.std.proofs.Common.{◌≡◌, ◌-◌, length, map, sum}
use Rattle.audit.specs.Lists.{transcripts, histories}
use Rattle.audit.specs.inner.Fronts.{AreFronts, IsOneOn}
use Rattle.audit.proofs.fronts.core_on.Given as goal

abbrev pub invariant-loop-places : goal.invariant-loop-places
invariant-loop-places l = record {
  fronts : AreFronts (transcripts l.units) (histories l.slices) l.places.cores l.places.slices;
  on : IsOneOn l.core l.initial.places.cores l.places.cores;
  still : l.places.slices ≡ l.initial.places.slices;
}

abbrev pub decreases-loop-places : goal.decreases-loop-places
decreases-loop-places l = sum (map length (transcripts l.units)) - sum l.places.cores
