-- The first two cells are there, and then some of those that tell what came of the event.
use Rattle.csv.specs.Records.{fields_of}
use Rattle.simulation.specs.EventTable.{AreCellsOf}
use Rattle.simulation.proofs.event_table.row_cells.Given as goal

abbrev pub invariant-loop-at : goal.invariant-loop-at
invariant-loop-at l = AreCellsOf l.number l.event (fields_of l.cells)
