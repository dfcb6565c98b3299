-- The totals so far are those over the slices so far.
use Rattle.std.proofs.Common.{◌≡◌, map, take}
use Rattle.statistics.specs.Numbers.{IsBoundedBy, slice_counts, totals_of}
use Rattle.statistics.proofs.run_counts.of_slices.Given as goal

abbrev pub invariant-loop-slice : goal.invariant-loop-slice
invariant-loop-slice l = record {
  totals : l.totals ≡ totals_of (map slice_counts (take l.slice-index l.managers));
  bounded : IsBoundedBy l.slice-index l.totals;
}
