-- Operations without times, in numbers.
use Rattle.std.specs.Prelude.{◌==◌, ◌≤◌, if◌then◌else◌, List, map}
use Rattle.mem_op.specs.Consistency.{Operation, Loaded, Stored, Swapped}
use Rattle.tardis_c.specs.declared.tardis_access.TardisAccess.{TardisAccess}

-- its kind is one of the three
abbrev pub IsAccess : TardisAccess → Type 0
IsAccess access = access.kind ≤ 2

abbrev pub operation_of : TardisAccess → Operation
operation_of access =
    if access.kind == 0 then Loaded access.addr access.value
    else if access.kind == 1 then Stored access.addr access.value
    else Swapped access.addr access.read access.value

-- the trace of the parts of the cores
abbrev pub trace_of : List (List TardisAccess) → List (List Operation)
trace_of parts = map (map operation_of) parts
