use Rattle.std.proofs.Common.{◌≡◌, ◌≤◌, ◌∙◌, [], ◌++◌, List, length, sym, subst, take, rules}
use Rattle.std.proofs.lemmas.List.{take_all}
use Rattle.std.proofs.lemmas.Option.{same_Some}
use Rattle.csv.specs.Writing.{default_writer, row_text}
use Rattle.csv.specs.Records.{fields_of}
use Rattle.core_machine.specs.declared.event.Event.{Event}
use Rattle.tardis_core.specs.Keeping.{LeadTo}
use Rattle.simulation.specs.EventTable.{AreLines, no_line}
use Rattle.simulation.proofs.EventTable.{lines_more, text_more}
use Rattle.simulation.proofs.event_table.print_events.Goals as goal

pub loop-at-init : goal.loop-at-init
loop-at-init c = record {
  fresh = c.in_ok-write_cells.ensures.fresh c.new_writer-writer.ensures.fresh;
  names = fields_of c.in_ok-names.names;
  lines = [];
  are = no_line;
  text = search rules;
}

pub loop-at-preserved : goal.loop-at-preserved
loop-at-preserved c =
    let far = c.loop-at.invariant in record {
      fresh = c.in_ok-write_cells-2.ensures.fresh far.fresh;
      names = far.names;
      lines = far.lines ++ row_text default_writer (fields_of c.in_ok-cells.cells);
      are = lines_more c.in-Some.events.now c.loop-at.at c.index-events-at.result far.lines (fields_of c.in_ok-cells.cells) c.loop-at-test.true c.index-events-at.is far.are c.in_ok-cells.ensures;
      text = text_more _ _ _ far.lines _ far.text (c.in_ok-write_cells-2.ensures.text far.fresh);
    }

pub returns : goal.returns
returns c =
    let events = c.in-Some.events.now in
    let end : length events ≤ c.loop-at.at = c.loop-at-test.false in
    record {
      events = events;
      lead = search rules;
      names = c.loop-at.invariant.names;
      lines = c.loop-at.invariant.lines;
      are = subst (λ (es : List Event). AreLines es c.loop-at.invariant.lines) (take_all c.loop-at.at events end) c.loop-at.invariant.are;
      text = same_Some _ _ (sym c.in_ok-text.ensures ∙ c.loop-at.invariant.text);
    }
