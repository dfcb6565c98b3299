-- The columns of the table: their names, and what each counts.
use Rattle.std.specs.Prelude.{ℕ, ◌+◌, Bool, true, false, ◌&&◌, not, if◌then◌else◌, max, List, [], ◌∷◌, codes, get_or}
use Rattle.line_stamps.specs.declared.message.Message.TheVariants as message
use Rattle.line_stamps.specs.declared.message.Reply.TheVariants.{RenewRep, UpgradeRep}
use Rattle.log_record.specs.declared.act.Act.{Act}
use Rattle.log_record.specs.declared.act.Act.TheVariants as act
use Rattle.manager_slice.specs.Messages.{is_request}
use Rattle.manager_slice.specs.declared.managed.HistoryEntry.TheVariants.{Evicted, Served}
use Rattle.core_unit.specs.declared.entry.CoreEntry.TheVariants as entry
use Rattle.statistics.specs.declared.column.Column.{Column}
use Rattle.statistics.specs.declared.column.Column.TheVariants.{Operations, Loads, Stores, Swaps, Hits, ShReq, ExReq, Renewals, Upgrades, WbRep, FlushRep, Dropped, SelfIncrements, Pts, Requests, GiveBacks, Evictions, Mts, PrivateWrites, Rank}
use Rattle.statistics.specs.declared.sight.Sight.{Sight}
use Rattle.statistics.specs.declared.sight.Sight.TheVariants.{Operation, Core, Slice}

-- the columns, in their order
abbrev pub columns : List Column
columns =
    Operations ∷ Loads ∷ Stores ∷ Swaps ∷ Hits ∷ ShReq ∷ ExReq ∷ Renewals ∷ Upgrades ∷ WbRep ∷ FlushRep ∷ Dropped ∷ SelfIncrements ∷ Pts
    ∷ Requests ∷ GiveBacks ∷ Evictions ∷ Mts ∷ PrivateWrites ∷ Rank ∷ []

abbrev pub column_count : ℕ
column_count = 20

abbrev pub column_name : Column → List ℕ
column_name Operations = codes "operations"
column_name Loads = codes "loads"
column_name Stores = codes "stores"
column_name Swaps = codes "swaps"
column_name Hits = codes "hits"
column_name ShReq = codes "sh_req"
column_name ExReq = codes "ex_req"
column_name Renewals = codes "renewals"
column_name Upgrades = codes "upgrades"
column_name WbRep = codes "wb_rep"
column_name FlushRep = codes "flush_rep"
column_name Dropped = codes "dropped"
column_name SelfIncrements = codes "self_increments"
column_name Pts = codes "pts"
column_name Requests = codes "requests"
column_name GiveBacks = codes "give_backs"
column_name Evictions = codes "evictions"
column_name Mts = codes "mts"
column_name PrivateWrites = codes "private_writes"
column_name Rank = codes "rank"

-- whether a column is for slices; the others are for cores
abbrev pub is_of_slices : Column → Bool
is_of_slices Requests = true
is_of_slices GiveBacks = true
is_of_slices Evictions = true
is_of_slices Mts = true
is_of_slices other = false

-- whether a column tells a stamp or a rank, of which the greatest counts; the others count sights, and counts add up
abbrev pub is_greatest : Column → Bool
is_greatest Pts = true
is_greatest Mts = true
is_greatest Rank = true
is_greatest other = false

-- two numbers in a column as one
abbrev pub joined_in : Column → ℕ → ℕ → ℕ
joined_in column a b = if is_greatest column then max a b else a + b

-- ---- what a column counts

abbrev pub is_load : Act → Bool
is_load (act.Load source) = true
is_load other = false

-- whether the column counts this; the columns of stamps and ranks count nothing
abbrev pub counts : Column → Sight → Bool
counts Operations (Operation act came due) = true
counts Loads (Operation act came due) = is_load act
counts Stores (Operation act.Store came due) = true
counts Swaps (Operation (act.Swap source word) came due) = true
-- no line came for it since the operation before it
counts Hits (Operation act came due) = not came
counts ShReq (Core (entry.Got (message.ShReq a copy pts) r)) = true
counts ExReq (Core (entry.Got (message.ExReq a copy) r)) = true
counts Renewals (Core (entry.Got (message.ShReq a copy pts) (RenewRep rts))) = true
counts Upgrades (Core (entry.Got (message.ExReq a copy) (UpgradeRep rts))) = true
counts WbRep (Core (entry.Got (message.WbRep a l) r)) = true
counts FlushRep (Core (entry.Got (message.FlushRep a l) r)) = true
counts Dropped (Core (entry.Dropped a)) = true
-- a period that ended, or an increment of the core's own accord
counts SelfIncrements (Operation act came due) = due
counts SelfIncrements (Core entry.Bumped) = true
counts Requests (Slice (Served c m r)) = is_request m
counts GiveBacks (Slice (Served c m r)) = not (is_request m)
counts Evictions (Slice (Evicted a)) = true
-- a store or a swap for which no line came: its line is one that the core has modified. Only the first store or swap after EX_REP or
-- UPGRADE_REP finds it unmodified, and that is the operation that asked for it
counts PrivateWrites (Operation act came due) = not came && not (is_load act)
counts column other = false

-- ---- places

-- the column at a place
unfoldable pub column_at : ℕ → Column
column_at place = get_or columns place Operations
