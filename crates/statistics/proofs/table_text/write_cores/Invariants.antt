-- The lines so far are those of the cores so far, and so are the totals.
use Rattle.std.proofs.Common.{◌≡◌, map, take}
use Rattle.std.specs.Io.KnownBytes.{Appends}
use Rattle.csv_lines.specs.Lines.{IsFresh, written}
use Rattle.statistics.specs.Numbers.{IsBoundedBy, core_counts, totals_of}
use Rattle.statistics.specs.TableText.{lines_of}
use Rattle.statistics.specs.declared.table_text.Whose.TheVariants.{Core}
use Rattle.statistics.proofs.table_text.write_cores.Given as goal

abbrev pub invariant-loop-core : goal.invariant-loop-core
invariant-loop-core l = record {
  fresh : IsFresh l.initial.writer → IsFresh l.writer;
  text : IsFresh l.initial.writer → Appends (written l.initial.writer) (written l.writer) (lines_of Core (map core_counts (take l.core l.units)));
  totals : l.totals ≡ totals_of (map core_counts (take l.core l.units));
  bounded : IsBoundedBy l.core l.totals;
}
