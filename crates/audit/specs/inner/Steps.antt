-- The steps that a slice can take from fronts.
use Rattle.std.specs.Prelude.{ℕ, ◌≡◌, ◌<◌, List, Some, length, slice_get, slice_index}
use Rattle.line_stamps.specs.Messages.{addr_of}
use Rattle.line_stamps.specs.declared.message.Message.{Message}
use Rattle.line_stamps.specs.declared.message.Reply.{Reply}
use Rattle.manager_slice.specs.declared.managed.HistoryEntry.{HistoryEntry}
use Rattle.manager_slice.specs.declared.managed.HistoryEntry.TheVariants.{Evicted, Served}
use Rattle.core_unit.specs.declared.entry.CoreEntry.{CoreEntry}
use Rattle.core_unit.specs.declared.entry.CoreEntry.TheVariants.{Got}
use Rattle.audit.specs.Lists.{transcript_of, history_of}
use Rattle.audit.specs.Pairs.{slice_of}
use Rattle.audit.specs.declared.fronts.SliceStep.{SliceStep}
use Rattle.audit.specs.declared.fronts.SliceStep.TheVariants.{Evicts, Passes}

-- slice s can do this next
abbrev pub Enabled : List (List CoreEntry) → List (List HistoryEntry) → List ℕ → List ℕ → ℕ → SliceStep → Type 0
Enabled ts hs p q s Evicts = (a : ℕ) × (slice_get (history_of hs s) (slice_index q s) ≡ Some (Evicted a))
Enabled ts hs p q s (Passes c) =
    (c < length p)
    × ((m : Message) × (r : Reply) × (slice_get (transcript_of ts c) (slice_index p c) ≡ Some (Got m r))
    × (slice_get (history_of hs s) (slice_index q s) ≡ Some (Served c m r)) × (slice_of (length hs) (addr_of m) ≡ s))
