-- Operations in numbers, and the records that they are.
use Rattle.std.specs.Prelude.{◌==◌, ◌≤◌, if◌then◌else◌, List, map}
use Rattle.mem_op.specs.declared.id.Source.{Source}
use Rattle.mem_op.specs.declared.id.Source.TheVariants.{Init, Store as From}
use Rattle.log_record.specs.declared.act.Act.{Act}
use Rattle.log_record.specs.declared.act.Act.TheVariants.{Load, Store, Swap}
use Rattle.log_record.specs.declared.format.Format.TheVariants.{Two}
use Rattle.log_record.specs.declared.record.Record.{Record}
use Rattle.log_record.specs.Line.{FitsIn}
use Rattle.tardis_c.specs.declared.tardis_operation.TardisOperation.{TardisOperation}

-- ---- one operation

abbrev pub source_of : TardisOperation → Source
source_of op = if op.source_core == 255 then Init else From (record { core = op.source_core; index = op.source_index })

abbrev pub act_of : TardisOperation → Act
act_of op = if op.kind == 0 then Load (source_of op) else if op.kind == 1 then Store else Swap (source_of op) op.read

abbrev pub record_of : TardisOperation → Record
record_of op = record { value = op.value; ts = op.ts; rank = op.rank; addr = op.addr; act = act_of op }

-- its kind is one of the three, and the numbers of its record are in range
abbrev pub IsOperation : TardisOperation → Type 0
IsOperation op = (op.kind ≤ 2) × FitsIn Two (record_of op)

-- ---- those of a set

abbrev pub logs_of : List (List TardisOperation) → List (List Record)
logs_of parts = map (map record_of) parts
