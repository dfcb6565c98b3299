-- The cells so far are those of the registers so far.
use Rattle.std.proofs.Common.{◌≡◌, map, take}
use Rattle.csv.specs.Records.{fields_of}
use Rattle.litmus.specs.TestGrammar.{shown_text}
use Rattle.litmus.proofs.table_text.header_cells.Given as goal

abbrev pub invariant-loop-one : goal.invariant-loop-one
invariant-loop-one l = fields_of l.cells ≡ map shown_text (take l.one-index l.shown)
