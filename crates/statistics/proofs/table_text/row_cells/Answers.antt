use Rattle.std.proofs.Common.{◌∷◌, ◌++◌, ◌∙◌, [], ap, sym, arith}
use Rattle.std.proofs.lemmas.List.FromFn.{map-range_with_len_more}
use Rattle.statistics.specs.TableText.{cell, whose_name}
use Rattle.statistics.proofs.table_text.row_cells.Goals as goal

pub loop-place-preserved : goal.loop-place-preserved
loop-place-preserved c =
    let cell_at = cell c.args.whose c.args.numbers.now in
    c.in_ok-push_cell.ensures ∙ ap (λ t. t ++ cell_at c.loop-place.place ∷ []) c.loop-place.invariant
    ∙ ap (λ t. whose_name c.args.whose ∷ t) (sym (map-range_with_len_more cell_at 0 c.loop-place.place c.loop-place.place (omega arith)))
