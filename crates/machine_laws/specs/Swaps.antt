-- Swaps: what no run of the core machine breaks.
use Rattle.std.specs.Prelude.{◌≡◌, ℕ, true, List, length, Option, Some, None, slice_get}
use Rattle.mem_op.specs.declared.id.Op.TheVariants.{Swap}
use Rattle.mem_op.specs.declared.id.Source.{Source}
use Rattle.line_stamps.specs.Ordered.{In}
use Rattle.log_record.specs.declared.act.Act.TheVariants as act
use Rattle.log_record.specs.declared.record.Entry.{Entry}
use Rattle.log_record.specs.declared.record.Record.{Record}
use Rattle.log_record.specs.Entries.{entries}
use Rattle.address_check.specs.AddressFaults.{right_store, is_source, value_from}
use Rattle.private_cache.specs.Table.{Hit}
use Rattle.core_unit.specs.Core.{Core, tries, record_of}
use Rattle.core_machine.specs.Machine.{World}
use Rattle.machine_laws.specs.Views.{View, Did}
use Rattle.machine_laws.specs.Versions.{Earlier}

-- core c, with nothing in its hand, swaps `word` into the address a, and that hits
pub record SwapHits (w : World) (c a word : ℕ) (hit : Hit) : Type 0 where
  pub core : Core
  pub there : slice_get w.cores c ≡ Some core
  pub free : core.hand ≡ None
  pub hits : tries c core (Swap a word) ≡ Some hit

-- what was read is right if this is the right store: its source is that store and its word the one stored, or `init` and 0 if there
-- is none
pub record IsRightRead (source : Source) (read : ℕ) (right : Option Entry) : Type 0 where
  pub store : is_source source right ≡ true
  pub word : read ≡ value_from right

-- what holds of the machine w, what is seen of it at each address, and its logs
pub record HasSwaps (w : World) (v : View) (logs : List (List Record)) : Type 0 where
  -- a swap that hits reads the value and the source of its line's home
  pub reads : (c a word : ℕ) (hit : Hit) → SwapHits w c a word hit → (hit.value ≡ (v.home a).value) × (hit.source ≡ (v.home a).source)
  -- each operation at its address so far, store or load, has a lesser key
  pub last : (c a word : ℕ) (hit : Hit) → SwapHits w c a word hit → (d j : ℕ) (p : Record) → Did v d j p → p.addr ≡ a →
      Earlier d j p c (length (v.log c)) (record_of (Swap a word) hit)
  -- each swap in a log has read its right store
  pub right : (e : Entry) (source : Source) (read : ℕ) → In e (entries logs) → e.logged.act ≡ act.Swap source read →
      IsRightRead source read (right_store (entries logs) e)
