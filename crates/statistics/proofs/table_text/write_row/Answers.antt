use Rattle.statistics.proofs.Plain.{row_plain}
use Rattle.statistics.proofs.table_text.write_row.Goals as goal

pub write_line-requires : goal.write_line-requires
write_line-requires c = rw c.in_ok-row_cells.ensures (row_plain _ _)
