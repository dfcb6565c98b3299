-- Histories that lead, entry by entry through the table, from one state to another.
use Rattle.std.specs.Prelude.{◌≤◌, nat_eq, List, length}
use Rattle.std.specs.List.{IsDistinct}
use Rattle.std.specs.Map.{keys_of}
use Rattle.lease_rule.specs.ConfigParts.{ConfigParts}
use Rattle.manager_slice.specs.Limits.{entry_limit}
use Rattle.manager_slice.specs.Changes.{slice_of}
use Rattle.manager_slice.specs.Leads.{Leads}
use Rattle.manager_slice.specs.Parts.{SliceParts}
use Rattle.manager_slice.specs.Table.{Slice, opening, Evicts, Serves}
use Rattle.manager_slice.specs.declared.managed.HistoryEntry.{HistoryEntry}
use Rattle.manager_slice.specs.declared.managed.HistoryEntry.TheVariants.{Evicted, Served}

-- an entry may lead from s to t
abbrev pub SliceStep : ConfigParts → Slice → HistoryEntry → Slice → Type 0
SliceStep g s (Evicted a) t = Evicts s a t
SliceStep g s (Served c m r) t = Serves g s c m r t

-- the entries may lead, one by one, from s to t
abbrev pub SliceLeads : ConfigParts → Slice → List HistoryEntry → Slice → Type 0
SliceLeads g = Leads (SliceStep g)

-- the state is the replay of the history
abbrev pub Replays : SliceParts → Type 0
Replays p = SliceLeads p.config opening p.history (slice_of p.state)

-- what the type of a slice keeps
pub record IsKept (p : SliceParts) : Type 0 where
  pub replay : Replays p
  -- no address has two lines
  pub distinct : IsDistinct nat_eq (keys_of p.state.lines)
  pub short : length p.history ≤ entry_limit
  pub room : 1 ≤ p.config.slice_lines
