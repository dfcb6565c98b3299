-- Transcripts, and how a core keeps one.
use Rattle.std.specs.Prelude.{ℕ, ◌≤◌, ◌<◌, Bool, List, All, get_or, length, map}
use Rattle.manager_slice.specs.Limits.{entry_limit}
use Rattle.core_unit.specs.declared.entry.CoreEntry.{CoreEntry}
use Rattle.core_unit.specs.declared.entry.CoreEntry.TheVariants as entry
use Rattle.core_unit.specs.declared.transcript.KeptEntry.{KeptEntry}
use Rattle.core_unit.specs.declared.transcript.KeptEntry.TheVariants.{Performed, Other}

-- What contracts see of a transcript: its entries, and whether there is room for one more without growing.
pub record TranscriptParts : Type 0 where
  pub entries : List CoreEntry
  pub has_room : Bool

-- the entry that this stands for; `others` are the entries that aren't operations
abbrev pub entry_of : List CoreEntry → KeptEntry → CoreEntry
entry_of others Performed = entry.Performed
entry_of others (Other place) = get_or others place entry.Performed

abbrev pub entries_of : List CoreEntry → List KeptEntry → List CoreEntry
entries_of others kept = map (entry_of others) kept

-- it stands for an operation, or for one of `count` other entries
abbrev pub IsWithin : ℕ → KeptEntry → Type 0
IsWithin count Performed = Unit {0}
IsWithin count (Other place) = place < count

-- at most 1,048,576 are kept, no fewer than the other entries, and each stands for an entry
pub record IsTranscript (others : List CoreEntry) (kept : List KeptEntry) : Type 0 where
  pub within : All (IsWithin (length others)) kept
  pub few : length others ≤ length kept
  pub short : length kept ≤ entry_limit
