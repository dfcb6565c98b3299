-- The log of a core, read from its entries.
use Rattle.std.specs.Prelude.{◌≡◌, ℕ, suc, List, [], ◌∷◌, refl, Option, None, Some, map, option_map, slice_get}
use Rattle.std.proofs.Common.{ap, arith}
use Rattle.log_record.specs.declared.record.Record.{Record}
use Rattle.log_record.specs.declared.record.Entry.{Entry}
use Rattle.log_record.specs.Entries.{core_entries}

-- the records of a list of entries
abbrev pub records_of : List Entry → List Record
records_of es = map (λ (e : Entry). e.logged) es

-- the entries of a log have its records
pub records_of_core : (core i : ℕ) (log : List Record) → records_of (core_entries core i log) ≡ log
records_of_core core i [] = refl
records_of_core core i (r ∷ log) = ap (λ (rs : List Record). r ∷ rs) (records_of_core core (suc i) log)

-- the entries of a core, where it has a log
abbrev pub entries_of : List (List Record) → ℕ → Option (List Entry)
entries_of logs core = option_map (λ (log : List Record). core_entries core 0 log) (slice_get logs core)

-- the records of the entries that were found are the core's log
pub log_found : (logs : List (List Record)) (core : ℕ) (es : List Entry) → Some es ≡ entries_of logs core → Some (records_of es) ≡ slice_get logs core
log_found logs core es h = grind (arith, records_of_core)

-- where there are no entries the core has no log
pub no_log_found : (logs : List (List Record)) (core : ℕ) → None ≡ entries_of logs core → None ≡ slice_get logs core
no_log_found logs core h = grind arith
