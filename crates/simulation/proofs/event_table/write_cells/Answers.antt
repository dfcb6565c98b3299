use Rattle.std.proofs.Common.{◌≢◌}
use Rattle.csv.specs.Writing.{default_writer}
use Rattle.csv.specs.declared.writer.QuoteStyle.TheVariants as style
use Rattle.simulation.proofs.event_table.write_cells.Goals.{in-Ok, in-Err}
use Rattle.simulation.proofs.event_table.write_cells.Goals as goal

pub returns-clause-text : goal.returns-clause-text
returns-clause-text c = elim c.match-write_byte_record.branch [
  | in-Ok w ↦ rw w.result-is (λ f.
      let plain : default_writer.style ≢ style.NonNumeric = λ e. cc e in
      let cells = rw (c.as_byte_record.ensures, f.setup) at w.in-Ok.ensures.bytes in
      cells f.fields f.none plain)
  | in-Err w ↦ rw w.result-is tt
]
