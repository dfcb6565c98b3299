-- The cells so far are those of the values so far.
use Rattle.std.proofs.Common.{◌≡◌, map, take}
use Rattle.csv.specs.Records.{fields_of}
use Rattle.decimal_text.specs.Numbers.{numeral}
use Rattle.litmus.proofs.table_text.row_cells.Given as goal

abbrev pub invariant-loop-value : goal.invariant-loop-value
invariant-loop-value l = fields_of l.cells ≡ map numeral (take l.value-index l.row.values)
