-- The counts so far are those of the entries so far.
use Rattle.std.proofs.Common.{◌≡◌, ◌<◌, ◌≤◌, ℕ, get_or, map, take}
use Rattle.statistics.specs.Columns.{column_count}
use Rattle.statistics.specs.Numbers.{counted}
use Rattle.statistics.specs.declared.sight.Sight.TheVariants.{Slice}
use Rattle.statistics.proofs.numbers.count_services.Given as goal

abbrev pub invariant-loop-entry : goal.invariant-loop-entry
invariant-loop-entry l = record {
  counts : l.counts ≡ counted (map (λ e. Slice e) (take l.entry-index l.history));
  few : (place : ℕ) → place < column_count → get_or l.counts place 0 ≤ l.entry-index;
}
