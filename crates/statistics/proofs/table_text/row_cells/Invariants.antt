-- The cells so far are those of the places so far.
use Rattle.std.proofs.Common.{◌≡◌, ◌∷◌, map}
use Rattle.std.specs.List.{range_with_len}
use Rattle.csv.specs.Records.{fields_of}
use Rattle.statistics.specs.TableText.{cell, whose_name}
use Rattle.statistics.proofs.table_text.row_cells.Given as goal

abbrev pub invariant-loop-place : goal.invariant-loop-place
invariant-loop-place l = fields_of l.cells ≡ whose_name l.fn.whose ∷ map (cell l.fn.whose l.numbers) (range_with_len 0 l.place)
