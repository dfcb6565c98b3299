use Rattle.litmus.proofs.Plain.{header_plain, row_plain}
use Rattle.litmus.proofs.table_text.print_table.Goals as goal

pub write_line-requires : goal.write_line-requires
write_line-requires c = rw c.in_ok-header_cells.ensures (header_plain _)

pub write_line-requires-in-loop-row : goal.write_line-requires-in-loop-row
write_line-requires-in-loop-row c = rw c.in_ok-row_cells.ensures (row_plain _)
