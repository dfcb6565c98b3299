-- The columns below the place have counted, and the others are as they were.
use Rattle.std.proofs.Common.{◌≡◌, ◌+◌, ◌<◌, ◌≤◌, ℕ, get_or, length}
use Rattle.std.specs.Prelude.{if◌then◌else◌}
use Rattle.statistics.specs.Columns.{column_at, column_count, counts}
use Rattle.statistics.proofs.numbers.count.Given as goal

abbrev pub invariant-loop-place : goal.invariant-loop-place
invariant-loop-place l = record {
  long : length l.counts ≡ column_count;
  below : (k : ℕ) → k < l.place → get_or l.counts k 0 ≡ get_or l.initial.counts k 0 + (if counts (column_at k) l.sight then 1 else 0);
  above : (k : ℕ) → l.place ≤ k → get_or l.counts k 0 ≡ get_or l.initial.counts k 0;
  limit : (k : ℕ) → get_or l.counts k 0 ≤ get_or l.initial.counts k 0 + 1;
}
