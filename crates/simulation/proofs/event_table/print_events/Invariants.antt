-- The lines so far are those of the events so far.
use Rattle.std.proofs.Common.{◌≡◌, ◌++◌, ℕ, List, Some, take}
use Rattle.csv.specs.Writing.{default_writer, row_text}
use Rattle.csv_lines.specs.Lines.{IsFresh, written}
use Rattle.simulation.specs.EventTable.{AreLines}
use Rattle.simulation.proofs.event_table.print_events.Given as goal

abbrev pub invariant-loop-at : goal.invariant-loop-at
invariant-loop-at l = record {
  fresh : IsFresh l.writer;
  names : List (List ℕ);
  lines : List ℕ;
  are : AreLines (take l.at l.events) lines;
  text : written l.writer ≡ Some (row_text default_writer names ++ lines);
}
