use Rattle.std.proofs.Common.{◌+◌, ◌*◌, ◌-◌, length, map, sum}
use Rattle.audit.specs.Lists.{transcripts, histories}
use Rattle.audit.specs.inner.Fronts.{Merging}
use Rattle.audit.proofs.merging.advance.Given as goal

abbrev pub invariant-loop-slice : goal.invariant-loop-slice
invariant-loop-slice l = Merging (transcripts l.units) (histories l.slices) l.places.cores l.places.slices l.due

abbrev pub decreases-loop-slice : goal.decreases-loop-slice
decreases-loop-slice l =
    sum l.due + 2 * ((sum (map length (transcripts l.units)) + sum (map length (histories l.slices))) - (sum l.places.cores + sum l.places.slices))
