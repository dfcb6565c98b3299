-- The log of a core as a list of entries.
use Rattle.std.specs.Prelude.{◌≡◌, ℕ, List, map}
use Rattle.log_record.specs.declared.record.Entry.{Entry}
use Rattle.log_record.specs.declared.record.Record.{Record}
use Rattle.explain.specs.LogFaults.{of_core}

-- the records of a list of entries
abbrev pub records_of : List Entry → List Record
records_of es = map (λ e. e.logged) es

-- the entries are those of a whole log of this core
abbrev pub IsLogOf : ℕ → List Entry → Type 0
IsLogOf core es = es ≡ of_core core (records_of es)
