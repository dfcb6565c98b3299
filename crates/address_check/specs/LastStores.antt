-- The last store among entries that are ordered by address and then by key.
use Rattle.std.specs.Prelude.{Bool, cond, ◌==◌, List, Option, Some, None, find, reverse}
use Rattle.log_record.specs.declared.record.Entry.{Entry}
use Rattle.address_check.specs.AddressFaults.{is_store}

-- whether an entry is a store or a swap
abbrev pub is_store_entry : Entry → Bool
is_store_entry e = is_store e.logged.act

-- the last store of a list
abbrev pub last_store : List Entry → Option Entry
last_store es = find is_store_entry (reverse es)

-- the store, if it is at the address of this entry
abbrev pub at_its_address : Entry → Option Entry → Option Entry
at_its_address e None = None
at_its_address e (Some s) = cond (s.logged.addr == e.logged.addr) (Some s) None
