-- Messages with their replies, as entries have them.
use Rattle.std.specs.Prelude.{ℕ, ◌+◌, ◌≡◌, ◌<◌, ◌≤◌, List, ◌∷◌, Option, Some, None, length, drop, slice_get}
use Rattle.line_stamps.specs.declared.message.Message.{Message}
use Rattle.line_stamps.specs.declared.message.Reply.{Reply}
use Rattle.manager_slice.specs.declared.managed.HistoryEntry.{HistoryEntry}
use Rattle.manager_slice.specs.declared.managed.HistoryEntry.TheVariants.{Evicted, Served}
use Rattle.core_unit.specs.declared.entry.CoreEntry.{CoreEntry}
use Rattle.core_unit.specs.declared.entry.CoreEntry.TheVariants.{Performed, Dropped, Gave, Got, Bumped}
use Rattle.audit.specs.Pairs.{serveds}

-- the message and its reply in an entry of a core
abbrev pub got_in : CoreEntry → Option (Message × Reply)
got_in Performed = None
got_in (Dropped a) = None
got_in (Gave m) = None
got_in (Got m r) = Some (m, r)
got_in Bumped = None

-- the message and its reply in an entry of a slice
abbrev pub served_in : HistoryEntry → Option (Message × Reply)
served_in (Evicted a) = None
served_in (Served d m r) = Some (m, r)

-- from place `from` on, the first message of core c that was served stands at place `at`
pub record IsNextServed (c : ℕ) (history : List HistoryEntry) (from at : ℕ) : Type 0 where
  pub least : from ≤ at
  pub within : at < length history
  pub entry : HistoryEntry
  pub stands : slice_get history at ≡ Some entry
  pub pair : Message × Reply
  pub has : served_in entry ≡ Some pair
  pub rest : serveds c (drop from history) ≡ pair ∷ serveds c (drop (at + 1) history)
