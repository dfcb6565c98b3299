-- What a load or a swap should have read, and what it breaks if it read something else. Here "load" covers a
-- swap's read and "store" its write.
use Rattle.std.specs.Prelude.{ℕ, Bool, true, false, ◌&&◌, ◌==◌, if◌then◌else◌, List, Option, Some, None, filter, filter_map}
use Rattle.std.specs.Ordering.{is_lt, flip_args}
use Rattle.mem_op.specs.declared.id.Source.{Source}
use Rattle.mem_op.specs.declared.id.Source.TheVariants.{Init, Store as From}
use Rattle.mem_op.specs.Consistency.{is_same_id}
use Rattle.line_stamps.specs.Least.{least_of}
use Rattle.log_record.specs.declared.record.Entry.{Entry}
use Rattle.log_record.specs.declared.act.Act.{Act}
use Rattle.log_record.specs.declared.act.Act.TheVariants.{Load, Store, Swap}
use Rattle.log_record.specs.Entries.{key_of, entry_cmp}
use Rattle.address_check.specs.declared.fault.AddressRule.{AddressRule}
use Rattle.address_check.specs.declared.fault.AddressRule.TheVariants.{Source as WrongSource, Value as WrongValue}
use Rattle.address_check.specs.declared.fault.AddressFault.{AddressFault}
use Rattle.address_check.specs.FaultOrder.{fault_cmp}

-- a swap counts as a store
abbrev pub is_store : Act → Bool
is_store (Load source) = false
is_store Store = true
is_store (Swap source read) = true

-- whether an entry is a store to the address of `load`, with a smaller key
abbrev pub is_earlier_store : Entry → Entry → Bool
is_earlier_store load e = is_store e.logged.act && (e.logged.addr == load.logged.addr) && is_lt (entry_cmp e load)

-- the entry with the greatest key
abbrev pub latest : List Entry → Option Entry
latest es = least_of (flip_args entry_cmp) es

-- among the stores to the address of `load` with a smaller key, the one with the greatest
abbrev pub right_store : List Entry → Entry → Option Entry
right_store es load = latest (filter (is_earlier_store load) es)

-- the source of a word that this store wrote, or `Init` if no store did
abbrev pub source_from : Option Entry → Source
source_from None = Init
source_from (Some e) = From e.id

-- the value of a store, or the initial 0 if there is none
abbrev pub value_from : Option Entry → ℕ
value_from None = 0
value_from (Some e) = e.logged.value

abbrev pub is_same_source : Source → Source → Bool
is_same_source Init Init = true
is_same_source Init (From id) = false
is_same_source (From id) Init = false
is_same_source (From id) (From other) = is_same_id id other

-- whether a source names this store, or `Init` if there is none
abbrev pub is_source : Source → Option Entry → Bool
is_source source right = is_same_source source (source_from right)

-- what a load with this source and value breaks, if the word at its address has source `from` and value `word`
abbrev pub broken_by : Source → ℕ → Source → ℕ → Option AddressRule
broken_by source value from word =
    if is_same_source source from
    then (if value == word then None else Some WrongValue)
    else Some WrongSource

-- what it breaks, if this is its right store
abbrev pub broken_rule : Source → ℕ → Option Entry → Option AddressRule
broken_rule source value right = broken_by source value (source_from right) (value_from right)

-- the fault of an entry that breaks a rule
abbrev pub fault_by : Entry → Option AddressRule → Option AddressFault
fault_by e None = None
fault_by e (Some rule) = Some (record { key = key_of e; rule = rule })

-- what an entry breaks, if this is its right store: a load or a swap by the word that it read; a store breaks nothing
abbrev pub act_fault : Act → Entry → Option Entry → Option AddressFault
act_fault (Load source) e right = fault_by e (broken_rule source e.logged.value right)
act_fault Store e right = None
act_fault (Swap source read) e right = fault_by e (broken_rule source read right)

-- what an entry breaks among these entries
abbrev pub address_fault : List Entry → Entry → Option AddressFault
address_fault es e = act_fault e.logged.act e (right_store es e)

-- all address faults of the entries
abbrev pub address_faults : List Entry → List AddressFault
address_faults es = filter_map (address_fault es) es

-- the address fault with the least key
abbrev pub least_address_fault : List Entry → Option AddressFault
least_address_fault es = least_of fault_cmp (address_faults es)
