-- How a list of entries keeps the records of one core.
use Rattle.std.specs.Prelude.{◌≡◌, ◌≤◌, ℕ, List, drop, length, map, take}
use Rattle.log_record.specs.declared.record.Record.{Record}
use Rattle.log_record.specs.declared.record.Entry.{Entry}
use Rattle.log_record.specs.Entries.{core_entries}
use Rattle.log_file.specs.declared.entry_list.EntryList.TheInside.{Inside}
use Rattle.log_file.specs.inner.Listing.{Listing}

-- the records of these entries, after the first `start`
abbrev pub records_after : ℕ → List Entry → List Record
records_after start es = map (λ (e : Entry). e.logged) (drop start es)

abbrev pub listing_of : Inside → Listing
listing_of a = record {
  base = record { core = a.core; before = take a.start a.entries.items };
  records = records_after a.start a.entries.items;
}

-- the entries after the first `start` are those of their records
pub record KeepsEntries (core start : ℕ) (list : List Entry) : Type 0 where
  pub within : start ≤ length list
  pub own : drop start list ≡ core_entries core 0 (records_after start list)

abbrev pub keeps_listing : Inside → Type 0
keeps_listing a = KeepsEntries a.core a.start a.entries.items
