-- Stamps and leases: what no run of the core machine breaks.
use Rattle.std.specs.Prelude.{◌≡◌, ℕ, ◌<◌, ◌≤◌, ◌⊎◌, true, Some}
use Rattle.line_stamps.specs.declared.line.Line.{Line}
use Rattle.log_record.specs.declared.record.Record.{Record}
use Rattle.address_check.specs.AddressFaults.{is_store}
use Rattle.machine_laws.specs.Views.{View, Did}

pub record HasStamps (v : View) : Type 0 where
  -- a line's lease doesn't end before it begins
  pub lease : (a : ℕ) → (v.home a).stamps.wts ≤ (v.home a).stamps.rts
  pub copy_lease : (c a : ℕ) (k : Line) → v.copy c a ≡ Some k → k.stamps.wts ≤ k.stamps.rts
  -- no operation at an address is later than the end of its line's lease, and no store is later than the line's version
  pub bound : (c i : ℕ) (q : Record) → Did v c i q → q.ts ≤ (v.home q.addr).stamps.rts
  pub newest : (c i : ℕ) (q : Record) → Did v c i q → is_store q.act ≡ true → q.ts ≤ (v.home q.addr).stamps.wts
  -- no copy may be read longer than its line
  pub copy_bound : (c a : ℕ) (k : Line) → v.copy c a ≡ Some k → k.stamps.rts ≤ (v.home a).stamps.rts
  -- no store lies inside the lease of a copy
  pub none_inside : (c : ℕ) (k : Line) (d i : ℕ) (q : Record) → v.copy c q.addr ≡ Some k → Did v d i q → is_store q.act ≡ true → (q.ts ≤ k.stamps.wts) ⊎ (k.stamps.rts < q.ts)
  -- a modified line: its owner has reached the end of its lease; the leases of all copies that are left ended before its version, and
  -- all operations of other cores at its address came before that
  pub dirty_own : (c a : ℕ) → v.dirty c a ≡ true → (v.home a).stamps.rts ≤ v.pts c
  pub dirty_alone : (c a : ℕ) → v.dirty c a ≡ true → (d : ℕ) (k : Line) → v.copy d a ≡ Some k → k.stamps.rts < (v.home a).stamps.wts
  pub dirty_first : (c : ℕ) (d i : ℕ) (q : Record) → v.dirty c q.addr ≡ true → Did v d i q → (d ≡ c) ⊎ (q.ts < (v.home q.addr).stamps.wts)
