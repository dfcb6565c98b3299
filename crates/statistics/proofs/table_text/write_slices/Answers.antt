use Rattle.std.proofs.Common.{ap, ◌∙◌}
use Rattle.statistics.proofs.Lines.{line_more}
use Rattle.statistics.specs.Numbers.{slice_counts}
use Rattle.statistics.specs.TableText.{row_cells}
use Rattle.statistics.specs.declared.table_text.Whose.TheVariants.{Slice}
use Rattle.statistics.proofs.table_text.write_slices.Goals as goal

pub loop-number-preserved : goal.loop-number-preserved
loop-number-preserved c = record {
  fresh = λ f. c.in_ok-write_row.ensures.fresh (c.loop-number.invariant.fresh f);
  text = λ f. line_more (λ n. Slice n) slice_counts _ _ _ _ _ _ _ c.loop-number-test.true (c.loop-number.invariant.text f) (c.in_ok-write_row.ensures.text (c.loop-number.invariant.fresh f))
      (ap (row_cells (Slice c.loop-number.number)) (c.of_slice.ensures.numbers ∙ ap slice_counts c.index-managers-number.is));
}
