-- The parts of a slice that contracts see.
use Rattle.std.specs.Prelude.{ℕ, List}
use Rattle.lease_rule.specs.ConfigParts.{ConfigParts}
use Rattle.manager_slice.specs.declared.managed.HistoryEntry.{HistoryEntry}
use Rattle.manager_slice.specs.declared.state.SliceState.{SliceState}

pub record SliceParts : Type 0 where
  pub number : ℕ
  pub config : ConfigParts
  pub state : SliceState
  pub history : List HistoryEntry
