-- The transcripts of cores and the histories of slices, and what is picked from such lists.
use Rattle.std.specs.Prelude.{ℕ, List, [], ◌∷◌, Option, Some, None, map, slice_index_or}
use Rattle.manager_slice.specs.Parts.{SliceParts}
use Rattle.manager_slice.specs.declared.managed.HistoryEntry.{HistoryEntry}
use Rattle.core_unit.specs.Parts.{UnitParts}
use Rattle.core_unit.specs.declared.entry.CoreEntry.{CoreEntry}

abbrev pub transcripts : List UnitParts → List (List CoreEntry)
transcripts = map (λ u. u.transcript)

abbrev pub histories : List SliceParts → List (List HistoryEntry)
histories = map (λ s. s.history)

-- a core without a unit has an empty transcript
abbrev pub transcript_of : List (List CoreEntry) → ℕ → List CoreEntry
transcript_of ts c = slice_index_or ts c []

abbrev pub history_of : List (List HistoryEntry) → ℕ → List HistoryEntry
history_of hs s = slice_index_or hs s []

abbrev pub put : {A : Type 0} → Option A → List A → List A
put None xs = xs
put (Some x) xs = x ∷ xs

-- what f finds in each element, in the order of the elements
abbrev pub picks : {A B : Type 0} → (A → Option B) → List A → List B
picks f [] = []
picks f (x ∷ xs) = put (f x) (picks f xs)
