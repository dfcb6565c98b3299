-- Entries with different ids.
use Rattle.std.specs.Prelude.{◌≢◌, List, AllPairs}
use Rattle.log_record.specs.declared.record.Entry.{Entry}

-- no two entries have the same id
abbrev pub IdsApart : List Entry → Type 0
IdsApart es = AllPairs (λ a b. a.id ≢ b.id) es
