-- The row of the table that a message meets. The order of service chooses the line that gives way.
use Rattle.std.specs.Prelude.{ℕ, ◌+◌, ◌==◌, nat_lt, nat_le, nat_eq, if◌then◌else◌, length, Option, Some, None, Result, Ok, Err}
use Rattle.std.specs.Map.{lookup}
use Rattle.line_stamps.specs.declared.line.Line.{Line}
use Rattle.line_stamps.specs.declared.message.Message.{Message}
use Rattle.line_stamps.specs.declared.message.Message.TheVariants.{ShReq, ExReq, WbRep, FlushRep}
use Rattle.line_stamps.specs.declared.message.RecallKind.TheVariants.{WriteBack, Flush}
use Rattle.line_stamps.specs.declared.message.Reply.TheVariants.{Taken}
use Rattle.lease_rule.specs.ConfigParts.{ConfigParts}
use Rattle.lease_rule.specs.Lease.{renewed_rts}
use Rattle.memory_stamp.specs.Memory.{filled_line, with_line}
use Rattle.manager_slice.specs.Lines.{giving_way}
use Rattle.manager_slice.specs.Table.{leased, share_reply, own_reply}
use Rattle.manager_slice.specs.declared.fault.SliceFault.{SliceFault}
use Rattle.manager_slice.specs.declared.fault.SliceFault.TheVariants.{NotOwner, StampLimit}
use Rattle.manager_slice.specs.declared.managed.ManagedLine.{ManagedLine}
use Rattle.manager_slice.specs.declared.managed.ManagedLine.TheVariants.{Shared, Exclusive}
use Rattle.manager_slice.specs.declared.row.Access.{Access}
use Rattle.manager_slice.specs.declared.row.Access.TheVariants.{Read, Write}
use Rattle.manager_slice.specs.declared.row.Request.{Request}
use Rattle.manager_slice.specs.declared.row.Row.{Row}
use Rattle.manager_slice.specs.declared.row.Row.TheVariants.{Recalled, Answered}
use Rattle.manager_slice.specs.declared.state.SliceState.{SliceState}

-- the row, unless the stamp that it needs is above the limit
abbrev pub within_limit : ℕ → Row → Result Row SliceFault
within_limit t row = if nat_le t 281474976710656 then Ok row else Err StampLimit

-- core c gives this line back
abbrev pub give_back_row : ℕ → Line → Option ManagedLine → Result Row SliceFault
give_back_row c l None = Err NotOwner
give_back_row c l (Some (Shared k)) = Err NotOwner
give_back_row c l (Some (Exclusive o)) = if o == c then Ok (Answered None Taken (Shared l)) else Err NotOwner

-- the recall of core o's line at address a
abbrev pub recall_row : ConfigParts → ℕ → Access → ℕ → Result Row SliceFault
recall_row g a (Read pts) o =
    within_limit (pts + g.lease) (Recalled (record { rts = pts + g.lease; addr = a; owner = o; kind = WriteBack }))
recall_row g a Write o = Ok (Recalled (record { rts = 0; addr = a; owner = o; kind = Flush }))

-- the answer to a request that meets the Shared line l, after the eviction if there is one
abbrev pub answer_row : ConfigParts → Request → Option (ℕ × Line) → Access → Line → Result Row SliceFault
answer_row g q evicted (Read pts) l =
    within_limit (renewed_rts l.stamps pts g.lease) (Answered evicted (share_reply q.copy (leased l pts g)) (Shared (leased l pts g)))
answer_row g q evicted Write l = Ok (Answered evicted (own_reply q.copy l) (Exclusive q.from))

-- the answer to a request for a line that is absent; this other line gives way to it, if one has to
abbrev pub absent_row : ConfigParts → SliceState → Request → Option (ℕ × ManagedLine) → Result Row SliceFault
absent_row g s q None = answer_row g q None q.access (filled_line s.memory q.addr)
absent_row g s q (Some (b, Shared k)) =
    answer_row g q (Some (b, k)) q.access (filled_line (with_line s.memory b k) q.addr)
absent_row g s q (Some (b, Exclusive o)) =
    Ok (Recalled (record { rts = 0; addr = b; owner = o; kind = Flush }))

-- the line that has to give way, or none if one more line fits
abbrev pub makes_way : ConfigParts → SliceState → Option (ℕ × ManagedLine)
makes_way g s = if nat_lt (length s.lines) g.slice_lines then None else giving_way s.lines

abbrev pub request_row : ConfigParts → SliceState → Request → Option ManagedLine → Result Row SliceFault
request_row g s q (Some (Exclusive o)) = recall_row g q.addr q.access o
request_row g s q (Some (Shared l)) = answer_row g q None q.access l
request_row g s q None = absent_row g s q (makes_way g s)

-- the row that core c's message meets
abbrev pub row_of : ConfigParts → SliceState → ℕ → Message → Result Row SliceFault
row_of g s c (ShReq a copy pts) =
    request_row g s (record { from = c; addr = a; copy = copy; access = Read pts }) (lookup (nat_eq a) s.lines)
row_of g s c (ExReq a copy) =
    request_row g s (record { from = c; addr = a; copy = copy; access = Write }) (lookup (nat_eq a) s.lines)
row_of g s c (WbRep a l) = give_back_row c l (lookup (nat_eq a) s.lines)
row_of g s c (FlushRep a l) = give_back_row c l (lookup (nat_eq a) s.lines)
