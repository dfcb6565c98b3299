-- A merge of a set of logs.
use Rattle.std.specs.Prelude.{◌≡◌, ℕ, List, [], Option, Some, length, replicate, slice_get}
use Rattle.log_record.specs.declared.record.Record.{Record}
use Rattle.log_record.specs.declared.record.Entry.{Entry}
use Rattle.merge_judge.specs.declared.merge.Merge.{Merge}
use Rattle.merge_judge.specs.inner.Lanes.{IsMerged}

-- the merge has taken these records from the readers, which stood at `before` and are now at `after`
abbrev pub HasMerged : {S L : Type 0} → (S → Option (List ℕ)) → (S → ℕ) → List S → List S → Merge L → List (List Record) → List Entry → Type 0
HasMerged remaining failed before after merge merged done =
    IsMerged remaining failed before after merge.lanes.items merge.clean merged done

abbrev pub IsMerging : {S L : Type 0} → (S → Option (List ℕ)) → (S → ℕ) → List S → Merge L → Type 0
IsMerging {S} remaining failed after merge =
    (before : List S) × ((merged : List (List Record)) × ((done : List Entry) × HasMerged remaining failed before after merge merged done))

-- an empty log for each reader
abbrev pub none_of : {S : Type 0} → List S → List (List Record)
none_of readers = replicate (length readers) []

-- each source gives the log of its core
abbrev pub Fit : {S : Type 0} → (ℕ → ℕ → S → Type 0) → List S → Type 0
Fit {S} fits readers = (core : ℕ) (source : S) → slice_get readers core ≡ Some source → fits core (length readers) source
