-- The totals so far are those over the cores so far.
use Rattle.std.proofs.Common.{◌≡◌, map, take}
use Rattle.statistics.specs.Numbers.{IsBoundedBy, core_counts, totals_of}
use Rattle.statistics.proofs.run_counts.of_cores.Given as goal

abbrev pub invariant-loop-unit : goal.invariant-loop-unit
invariant-loop-unit l = record {
  totals : l.totals ≡ totals_of (map core_counts (take l.unit-index l.units));
  bounded : IsBoundedBy l.unit-index l.totals;
}
