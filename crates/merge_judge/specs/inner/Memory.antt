-- The words of memory along an order of records.
use Rattle.std.specs.Prelude.{◌≡◌, ◌<◌, ℕ, ◌&&◌, ◌==◌, List, [], ◌∷◌, ◌++◌, Option, Some, None, find, reverse, length, slice_get, slice_index}
use Rattle.std.specs.Option.{option_or}
use Rattle.mem_op.specs.declared.id.Source.{Source}
use Rattle.log_record.specs.declared.record.Entry.{Entry}
use Rattle.address_check.specs.declared.fault.AddressFault.{AddressFault}
use Rattle.address_check.specs.AddressFaults.{is_store, source_from, value_from, act_fault}

-- the last store to an address
abbrev pub last_store_to : ℕ → List Entry → Option Entry
last_store_to addr done = find (λ e. is_store e.logged.act && (e.logged.addr == addr)) (reverse done)

-- a word for each address, and where it comes from
pub record IsMemory (values : List ℕ) (sources : List Source) : Type 0 where
  pub words : length values ≡ 65536
  pub origins : length sources ≡ 65536

-- each address has the value of the last store to it and that store as its source, or 0 and `Init` if there is none
pub record Holds (values : List ℕ) (sources : List Source) (done : List Entry) : Type 0 where
  pub words : length values ≡ 65536
  pub origins : length sources ≡ 65536
  pub value : (addr : ℕ) → addr < 65536 → slice_index values addr ≡ value_from (last_store_to addr done)
  pub source : (addr : ℕ) → addr < 65536 → slice_get sources addr ≡ Some (source_from (last_store_to addr done))

-- what an entry breaks if it comes after these
abbrev pub fault_after : List Entry → Entry → Option AddressFault
fault_after done e = act_fault e.logged.act e (last_store_to e.logged.addr done)

-- the first fault of these entries, if they come after those that were done
abbrev pub first_along : List Entry → List Entry → Option AddressFault
first_along done [] = None
first_along done (e ∷ es) = option_or (fault_after done e) (first_along (done ++ e ∷ []) es)
