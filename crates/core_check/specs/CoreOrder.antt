-- The order of a core's records: (ts, rank) never falls.
use Rattle.std.specs.Prelude.{ℕ, zero, suc, Bool, false, List, Option, Some, None, slice_get}
use Rattle.std.specs.declared.cmp.Ordering.{Ordering}
use Rattle.std.specs.Ordering.{nat_cmp, on, then_cmp, is_lt}
use Rattle.log_record.specs.declared.record.Record.{Record}

-- the order of (ts, rank)
abbrev pub stamp_cmp : Record → Record → Ordering
stamp_cmp = then_cmp (on (λ r. r.ts) nat_cmp) (on (λ r. r.rank) nat_cmp)

-- whether (ts, rank) of the later record is less than that of the earlier
abbrev pub falls : Option Record → Option Record → Bool
falls None later = false
falls (Some earlier) None = false
falls (Some earlier) (Some later) = is_lt (stamp_cmp later earlier)

-- whether (ts, rank) at an index of a log is less than that at the index before
abbrev pub is_core_fault : List Record → ℕ → Bool
is_core_fault log zero = false
is_core_fault log (suc i) = falls (slice_get log i) (slice_get log (suc i))
