-- Which store a load that breaks a rule points to. Here "load" covers a swap's read and "store" its write.
use Rattle.std.specs.Prelude.{Bool, ◌==◌, ◌&&◌, ℕ, List, Option, None, Some, if◌then◌else◌, find, is_some, reverse, take}
use Rattle.std.specs.Ordering.{is_lt}
use Rattle.mem_op.specs.declared.id.OpId.{OpId}
use Rattle.mem_op.specs.declared.id.Source.TheVariants.{Init, Store as From}
use Rattle.mem_op.specs.Consistency.{word_answered}
use Rattle.log_record.specs.declared.act.Act.{Act}
use Rattle.log_record.specs.declared.act.Act.TheVariants.{Load, Store, Swap}
use Rattle.log_record.specs.declared.record.Entry.{Entry}
use Rattle.log_record.specs.Entries.{entry_cmp, operation_of}
use Rattle.address_check.specs.LastStores.{is_store_entry}

-- the id that a source names
abbrev pub named_id : Act → Option OpId
named_id (Load Init) = None
named_id (Load (From id)) = Some id
named_id Store = None
named_id (Swap Init read) = None
named_id (Swap (From id) read) = Some id

-- whether an entry is a store that comes after this one by key; every store comes after the initial 0
abbrev pub is_over : Option Entry → Entry → Bool
is_over None e = is_store_entry e
is_over (Some store) e = is_store_entry e && is_lt (entry_cmp store e)

-- the first store, by key, over this one among the records of an address before a place
abbrev pub first_over : List Entry → ℕ → Option Entry → Option Entry
first_over group place store = find (is_over store) (take place group)

-- the first store over what a load read, if this is the record that the load names; none if what it names isn't there or isn't a store at its address
abbrev pub culprit : List Entry → ℕ → Entry → Option Entry → Option Entry
culprit group place load None = if is_some (named_id load.logged.act) then None else first_over group place None
culprit group place load (Some named) =
    if is_store_entry named && (named.logged.addr == load.logged.addr) then first_over group place (Some named) else None

-- whether a store left the word that a load read
abbrev pub has_word : Entry → Entry → Bool
has_word load e = is_store_entry e && (e.logged.value == word_answered (operation_of load.logged))

-- the last such store among the records of an address before a place
abbrev pub same_word : List Entry → ℕ → Entry → Option Entry
same_word group place load = find (has_word load) (reverse (take place group))
