-- The records of a set in the order of their keys.
use Rattle.std.specs.Prelude.{List, map}
use Rattle.mem_op.specs.declared.id.OpId.{OpId}
use Rattle.line_stamps.specs.Ordered.{sorted}
use Rattle.log_record.specs.declared.record.Record.{Record}
use Rattle.log_record.specs.declared.record.Entry.{Entry}
use Rattle.log_record.specs.Entries.{entries, entry_cmp}

abbrev pub by_key : List (List Record) → List Entry
by_key logs = sorted entry_cmp (entries logs)

abbrev pub ids_by_key : List (List Record) → List OpId
ids_by_key logs = map (λ e. e.id) (by_key logs)
