-- What the times of a load that breaks a rule allow. Here "load" covers a swap's read and "store" its write.
use Rattle.std.specs.Prelude.{Bool, false, ◌==◌, ◌&&◌, not, ℕ, ◌+◌, List, Option, Some, drop, find, option_map}
use Rattle.std.specs.Option.{is_none, option_map_or}
use Rattle.log_record.specs.declared.record.Entry.{Entry}
use Rattle.address_check.specs.declared.fault.AddressRule.{AddressRule}
use Rattle.address_check.specs.AddressFaults.{act_fault, right_store}
use Rattle.address_check.specs.LastStores.{is_store_entry}

-- whether stamp and rank of two operations of different cores are the same, so that the number of the core decides which comes first
abbrev pub is_tie : Entry → Entry → Bool
is_tie a b = (a.logged.ts == b.logged.ts) && (a.logged.rank == b.logged.rank) && not (a.id.core == b.id.core)

-- the rule that an operation breaks if this is the store that it should read
abbrev pub rule_with : Entry → Option Entry → Option AddressRule
rule_with e store = option_map (λ f. f.rule) (act_fault e.logged.act e store)

-- whether a load would break no rule just before the store that it should read, and another core made that store
abbrev pub is_right_earlier : List Entry → Entry → Bool
is_right_earlier es load =
    option_map_or (λ store. not (store.id.core == load.id.core) && is_none (rule_with load (right_store es store))) (right_store es load) false

-- the first store after a place among the records of an address
abbrev pub next_store : List Entry → ℕ → Option Entry
next_store group place = find is_store_entry (drop (place + 1) group)

-- whether a load would break no rule just after that store, and another core made it
abbrev pub is_right_later : Entry → Option Entry → Bool
is_right_later load next = option_map_or (λ store. not (store.id.core == load.id.core) && is_none (rule_with load (Some store))) next false
