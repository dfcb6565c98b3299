use Rattle.std.proofs.Common.{ap, ◌∙◌, arith}
use Rattle.std.proofs.lemmas.Grind.{common_steps}
use Rattle.statistics.proofs.Lines.{line_more}
use Rattle.statistics.specs.Numbers.{core_counts}
use Rattle.statistics.specs.TableText.{row_cells}
use Rattle.statistics.specs.declared.table_text.Whose.TheVariants.{Core}
use Rattle.statistics.proofs.table_text.write_cores.Goals as goal

pub loop-core-preserved : goal.loop-core-preserved
loop-core-preserved c = record {
  fresh = λ f. c.in_ok-write_row.ensures.fresh (c.loop-core.invariant.fresh f);
  text = λ f. line_more (λ n. Core n) core_counts _ _ _ _ _ _ _ c.loop-core-test.true (c.loop-core.invariant.text f) (c.in_ok-write_row.ensures.text (c.loop-core.invariant.fresh f))
      (ap (row_cells (Core c.loop-core.core)) (c.of_core-numbers.ensures.numbers ∙ ap core_counts c.index-units-core.is));
  totals = grind (arith, common_steps);
  bounded = grind (arith, common_steps);
}
