-- The numbers of cores and slices, and the totals over them.
use Rattle.std.specs.Prelude.{◌≡◌, ℕ, ◌*◌, ◌^◌, ◌<◌, ◌≤◌, false, max, List, count_by, get_or, map, replicate, take}
use Rattle.std.specs.List.{fold, range_with_len}
use Rattle.log_record.specs.declared.record.Record.{Record}
use Rattle.manager_slice.specs.Parts.{SliceParts}
use Rattle.core_unit.specs.Parts.{UnitParts}
use Rattle.statistics.specs.Columns.{column_at, column_count, counts, is_greatest, joined_in}
use Rattle.statistics.specs.Sights.{core_sights, slice_sights}
use Rattle.statistics.specs.declared.column.Column.{Column}
use Rattle.statistics.specs.declared.column.Column.TheVariants.{Mts, Pts, Rank}
use Rattle.statistics.specs.declared.numbers.Numbers.{Numbers}
use Rattle.statistics.specs.declared.sight.Sight.{Sight}

-- one number for each column, by its place
unfoldable pub by_place : (ℕ → ℕ) → List ℕ
by_place number = map number (range_with_len 0 column_count)

-- how much each column counts of this
abbrev pub counted : List Sight → List ℕ
counted sights = by_place (λ place. count_by (counts (column_at place)) sights)

-- ---- of a core and of a slice

abbrev pub greatest_rank : List Record → ℕ
greatest_rank log = fold (λ most r. max most r.rank) 0 log

-- the number of a core in a column
abbrev pub core_number : UnitParts → Column → ℕ
core_number u Pts = u.pts
core_number u Rank = greatest_rank u.log
core_number u column = count_by (counts column) (core_sights u)

-- the number of a slice in a column
abbrev pub slice_number : SliceParts → Column → ℕ
slice_number s Mts = s.state.memory.mts
slice_number s column = count_by (counts column) (slice_sights s)

-- the numbers of a core
abbrev pub core_counts : UnitParts → Numbers
core_counts u = record { values = by_place (λ place. core_number u (column_at place)) }

-- the numbers of a slice
abbrev pub slice_counts : SliceParts → Numbers
slice_counts s = record { values = by_place (λ place. slice_number s (column_at place)) }

-- ---- totals

-- the numbers of two as one, column by column
abbrev pub joined : Numbers → Numbers → Numbers
joined a b = record { values = by_place (λ place. joined_in (column_at place) (get_or a.values place 0) (get_or b.values place 0)) }

-- the numbers of all these as one
abbrev pub totals_of : List Numbers → Numbers
totals_of all = fold joined (record { values = replicate column_count 0 }) all

-- the numbers of this many cores and slices of a run, or of all if there are fewer
abbrev pub run_numbers : ℕ → ℕ → List UnitParts → List SliceParts → Numbers
run_numbers cores slices us ss = joined (totals_of (map core_counts (take cores us))) (totals_of (map slice_counts (take slices ss)))

-- each count is at most that of this many cores and slices, with at most 2 ^ 32 each
pub record IsBoundedBy (parts : ℕ) (n : Numbers) : Type 0 where
  pub each : (place : ℕ) → place < column_count → is_greatest (column_at place) ≡ false → get_or n.values place 0 ≤ parts * 2 ^ 32

-- or that of this many runs, each of at most 64 cores and 64 slices
abbrev pub IsBounded : ℕ → Numbers → Type 0
IsBounded runs n = IsBoundedBy (runs * 128) n
