-- The totals over one more.
use Rattle.std.proofs.Common.{◌≡◌, List, [], ◌∷◌, ◌++◌}
use Rattle.std.specs.Prelude.{replicate}
use Rattle.std.proofs.lemmas.List.Sums.{fold_push}
use Rattle.statistics.specs.Columns.{column_count}
use Rattle.statistics.specs.Numbers.{joined, totals_of}
use Rattle.statistics.specs.declared.numbers.Numbers.{Numbers}

pub totals_more : (all : List Numbers) (more : Numbers) → totals_of (all ++ more ∷ []) ≡ joined (totals_of all) more
totals_more all more = fold_push joined (record { values = replicate column_count 0 }) all more
