-- The counts so far are those of the entries so far.
use Rattle.std.proofs.Common.{◌≡◌, ◌<◌, ◌≤◌, ℕ, get_or, take}
use Rattle.std.specs.List.{fold}
use Rattle.statistics.specs.Columns.{column_count}
use Rattle.statistics.specs.Numbers.{counted}
use Rattle.statistics.specs.Sights.{no_past, past_after, sights_after}
use Rattle.statistics.proofs.numbers.count_entries.Given as goal

abbrev pub invariant-loop-place : goal.invariant-loop-place
invariant-loop-place l = record {
  counts : l.counts ≡ counted (sights_after l.period l.log no_past (take l.place l.transcript.entries));
  past : l.past ≡ fold past_after no_past (take l.place l.transcript.entries);
  few : (place : ℕ) → place < column_count → get_or l.counts place 0 ≤ l.place;
  done : l.past.done ≤ l.place;
}
