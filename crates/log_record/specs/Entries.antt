-- The records of a set of logs, one log for each core.
use Rattle.std.specs.Prelude.{ℕ, suc, List, [], ◌∷◌, ◌++◌, map, Option, slice_get, option_and_then}
use Rattle.std.specs.declared.cmp.Ordering.{Ordering}
use Rattle.std.specs.Global.{Vec}
use Rattle.mem_op.specs.declared.id.OpId.{OpId}
use Rattle.mem_op.specs.Consistency.{Operation, Loaded, Stored, Swapped}
use Rattle.line_stamps.specs.declared.key.Key.{Key}
use Rattle.line_stamps.specs.KeyOrder.{key_cmp}
use Rattle.log_record.specs.declared.record.Record.{Record}
use Rattle.log_record.specs.declared.record.Entry.{Entry}
use Rattle.log_record.specs.declared.act.Act.{Act}
use Rattle.log_record.specs.declared.act.Act.TheVariants.{Load, Store, Swap}

-- a record's operation, without stamp, rank and source
abbrev pub operation_by : Act → ℕ → ℕ → Operation
operation_by (Load source) addr value = Loaded addr value
operation_by Store addr value = Stored addr value
operation_by (Swap source read) addr value = Swapped addr read value

abbrev pub operation_of : Record → Operation
operation_of r = operation_by r.act r.addr r.value

abbrev pub operations_of : List (List Record) → List (List Operation)
operations_of logs = map (map operation_of) logs

-- the record with this id
abbrev pub record_at : List (List Record) → OpId → Option Record
record_at logs id = option_and_then (λ log. slice_get log id.index) (slice_get logs id.core)

abbrev pub key_of : Entry → Key
key_of e = record { ts = e.logged.ts; rank = e.logged.rank; core = e.id.core; index = e.id.index }

-- the order of entries: by key
abbrev pub entry_cmp : Entry → Entry → Ordering
entry_cmp a b = key_cmp (key_of a) (key_of b)

-- these records as entries of core c, the first with index i
abbrev pub core_entries : ℕ → ℕ → List Record → List Entry
core_entries c i [] = []
core_entries c i (r ∷ rs) = record { id = record { core = c; index = i }; logged = r } ∷ core_entries c (suc i) rs

-- the records of these logs as entries of cores c, c + 1, ..
abbrev pub entries_from : ℕ → List (List Record) → List Entry
entries_from c [] = []
entries_from c (log ∷ logs) = core_entries c 0 log ++ entries_from (suc c) logs

-- all records of the set, by core and then by index
abbrev pub entries : List (List Record) → List Entry
entries logs = entries_from 0 logs

-- the records that the vectors of a set hold
abbrev pub record_lists : List (Vec Record) → List (List Record)
record_lists logs = map (λ log. log.items) logs
