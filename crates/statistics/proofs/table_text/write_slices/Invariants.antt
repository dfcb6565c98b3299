-- The lines so far are those of the slices so far.
use Rattle.std.proofs.Common.{map, take}
use Rattle.std.specs.Io.KnownBytes.{Appends}
use Rattle.csv_lines.specs.Lines.{IsFresh, written}
use Rattle.statistics.specs.Numbers.{slice_counts}
use Rattle.statistics.specs.TableText.{lines_of}
use Rattle.statistics.specs.declared.table_text.Whose.TheVariants.{Slice}
use Rattle.statistics.proofs.table_text.write_slices.Given as goal

abbrev pub invariant-loop-number : goal.invariant-loop-number
invariant-loop-number l = record {
  fresh : IsFresh l.initial.writer → IsFresh l.writer;
  text : IsFresh l.initial.writer → Appends (written l.initial.writer) (written l.writer) (lines_of Slice (map slice_counts (take l.number l.managers)));
}
