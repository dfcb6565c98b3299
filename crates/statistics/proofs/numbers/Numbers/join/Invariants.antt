-- The numbers below the place are joined, and the others are as they were.
use Rattle.std.proofs.Common.{◌≡◌, ℕ, ◌+◌, ◌<◌, ◌≤◌, false, get_or, length}
use Rattle.statistics.specs.Columns.{column_at, column_count, is_greatest, joined_in}
use Rattle.statistics.proofs.numbers.Numbers.join.Given as goal

abbrev pub invariant-loop-place : goal.invariant-loop-place
invariant-loop-place l = record {
  long : length l.self.values ≡ column_count;
  below : (k : ℕ) → k < l.place → get_or l.self.values k 0 ≡ joined_in (column_at k) (get_or l.initial.self.values k 0) (get_or l.more.values k 0);
  above : (k : ℕ) → l.place ≤ k → get_or l.self.values k 0 ≡ get_or l.initial.self.values k 0;
  limit : (k : ℕ) → is_greatest (column_at k) ≡ false → get_or l.self.values k 0 ≤ get_or l.initial.self.values k 0 + get_or l.more.values k 0;
}
