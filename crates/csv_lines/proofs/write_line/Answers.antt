use Rattle.std.proofs.Common.{◌≢◌, ◌∙◌, ◌++◌, ap}
use Rattle.csv.specs.Writing.{default_writer}
use Rattle.csv.specs.declared.writer.QuoteStyle.TheVariants as style
use Rattle.csv_lines.proofs.Plain.{plain_line}
use Rattle.csv_lines.proofs.write_line.Goals.{in-Ok, in-Err}
use Rattle.csv_lines.proofs.write_line.Goals as goal

pub returns-clause-text : goal.returns-clause-text
returns-clause-text c = elim c.match-write_byte_record.branch [
  | in-Ok w ↦ rw w.result-is (λ f.
      let plain : default_writer.style ≢ style.NonNumeric = λ e. cc e in
      let cells = rw (c.as_byte_record.ensures, f.setup) at w.in-Ok.ensures.bytes in
      cells f.fields f.none plain ∙ ap (λ t. (c.args.writer.now.wtr.inner.items ++ c.args.writer.now.wtr.buf) ++ t) (plain_line _ c.requires))
  | in-Err w ↦ rw w.result-is tt
]
