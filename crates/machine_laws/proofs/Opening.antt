-- The machine as it starts keeps all of it, and so each state that a run leads to does.
use Rattle.std.proofs.Common.{◌≡◌, ◌∷◌, [], zero, suc, ap, ℕ, true, false, List, refl, arith, replicate, map}
use Rattle.std.specs.Prelude.{Option, Some, None, slice_get}
use Rattle.std.specs.Ordering.{nat_cmp}
use Rattle.std.specs.FinMap.{get-empty}
use Rattle.line_stamps.specs.declared.line.Line.{Line}
use Rattle.lease_rule.specs.ConfigParts.{ConfigParts}
use Rattle.memory_stamp.specs.StoredParts.{StoredParts}
use Rattle.log_record.specs.declared.record.Record.{Record}
use Rattle.core_program.specs.declared.instruction.Instruction.{Instruction}
use Rattle.manager_slice.specs.Table.{Slice, opening as new_slice}
use Rattle.manager_slice.specs.declared.managed.ManagedLine.{ManagedLine}
use Rattle.manager_slice.specs.declared.managed.ManagedLine.TheVariants as managed
use Rattle.core_unit.specs.Core.{Core, new_core}
use Rattle.core_machine.specs.Machine.{World, Run, opening, slice_number}
use Rattle.core_machine.specs.declared.event.Event.{Event}
use Rattle.machine_laws.specs.Views.{View, Did}
use Rattle.machine_laws.specs.Stamps.{HasStamps}
use Rattle.machine_laws.specs.Versions.{HasVersions}
use Rattle.machine_laws.specs.Settled.{Settled, blank_line, copy_in, is_dirty, home, view, entry_at, log_of, managed_at, settled}
use Rattle.machine_laws.specs.Hands.{AgreeOnOwners}
use Rattle.machine_laws.proofs.Keeping.{Keeps, run_keeps}

pub new_at : (programs : List (List Instruction)) (c : ℕ) (u : Core) → slice_get (map new_core programs) c ≡ Some u → (program : List Instruction) × (u ≡ new_core program)
new_at [] c u e = absurd cc
new_at (p ∷ ps) zero u e = (p, cc)
new_at (p ∷ ps) (suc c) u e = new_at ps c u e

new_slice_at : (n i : ℕ) (s : Slice) → slice_get (replicate n new_slice) i ≡ Some s → s ≡ new_slice
new_slice_at zero i s e = absurd cc
new_slice_at (suc n) zero s e = cc
new_slice_at (suc n) (suc i) s e = new_slice_at n i s e

entry_opening : (o : Option Core) (a : ℕ) → ((u : Core) → o ≡ Some u → (program : List Instruction) × (u ≡ new_core program)) → (entry_at o a ≡ None) × (log_of o ≡ [])
entry_opening None a f = (refl, refl)
entry_opening (Some u) a f = let z = f u refl in (rw z.1 (get-empty nat_cmp a), rw z.1 refl)

managed_opening : (o : Option Slice) (a : ℕ) → ((s : Slice) → o ≡ Some s → s ≡ new_slice) → managed_at o a ≡ managed.Shared blank_line
managed_opening None a f = refl
managed_opening (Some s) a f = rw (f s refl) (rw (get-empty {X = ManagedLine} nat_cmp a, get-empty {X = StoredParts} nat_cmp a) refl)

no_did : (v : View) → ((c : ℕ) → v.log c ≡ []) → (c i : ℕ) (q : Record) → Did v c i q → ⊥
no_did v f c i q d = let z : slice_get {X = Record} [] i ≡ Some q = rw (f c) at d.is in cc

record IsFresh (x : Settled) : Type 0 where
  entry : (c a : ℕ) → x.entry c a ≡ None
  managed : (a : ℕ) → x.managed a ≡ managed.Shared blank_line
  log : (c : ℕ) → x.log c ≡ []

fresh_copy : (x : Settled) → IsFresh x → (c a : ℕ) (k : Line) → copy_in (x.entry c a) ≡ Some k → ⊥
fresh_copy x f c a k e = let z : copy_in (x.entry c a) ≡ None = ap copy_in (f.entry c a) in cc

fresh_dirty : (x : Settled) → IsFresh x → (c a : ℕ) → is_dirty (x.entry c a) ≡ true → ⊥
fresh_dirty x f c a e = let z : is_dirty (x.entry c a) ≡ false = ap is_dirty (f.entry c a) in cc

fresh_did : (x : Settled) → IsFresh x → (c i : ℕ) (q : Record) → Did (view x) c i q → ⊥
fresh_did x f = no_did (view x) f.log

fresh_home : (x : Settled) → IsFresh x → (a : ℕ) → home x a ≡ blank_line
fresh_home x f a = rw (f.managed a) refl

fresh_owns : (x : Settled) → IsFresh x → AgreeOnOwners x
fresh_owns x f = record {
  owner = λ c a m l e. absurd (let z = f.entry c a in cc);
  owned = λ c a e. absurd (let z = f.managed a in cc);
}

fresh_stamps : (x : Settled) → IsFresh x → HasStamps (view x)
fresh_stamps x f = record {
  lease = λ a. rw (fresh_home x f a) (omega arith);
  bound = λ c i q d. absurd (fresh_did x f c i q d);
  newest = λ c i q d st. absurd (fresh_did x f c i q d);
  copy_lease = λ c a k e. absurd (fresh_copy x f c a k e);
  copy_bound = λ c a k e. absurd (fresh_copy x f c a k e);
  none_inside = λ c k d i q e did st. absurd (fresh_did x f d i q did);
  dirty_own = λ c a e. absurd (fresh_dirty x f c a e);
  dirty_alone = λ c a e d k ek. absurd (fresh_dirty x f c a e);
  dirty_first = λ c d i q e did. absurd (fresh_did x f d i q did);
}

fresh_versions : (x : Settled) → IsFresh x → HasVersions (view x)
fresh_versions x f = record {
  reached = λ c i q d. absurd (fresh_did x f c i q d);
  order = λ c i j p q dp dq l. absurd (fresh_did x f c i p dp);
  home_source = λ a. rw (fresh_home x f a) refl;
  copy_source = λ c a k e. absurd (fresh_copy x f c a k e);
  version = λ c a k e. absurd (fresh_copy x f c a k e);
  last = λ d j p did st. absurd (fresh_did x f d j p did);
  copy_last = λ c k d j p e did st. absurd (fresh_did x f d j p did);
  right = λ c i q s z did e. absurd (fresh_did x f c i q did);
}

pub opening_keeps : (g : ConfigParts) (programs : List (List Instruction)) → Keeps g (opening programs g.slices)
opening_keeps g programs =
    let x : Settled = settled g (opening programs g.slices) in
    let fresh : IsFresh x = record {
      entry = λ c a. (entry_opening (slice_get (map new_core programs) c) a (new_at programs c)).0;
      managed = λ a. managed_opening (slice_get (replicate g.slices new_slice) (slice_number g a)) a (new_slice_at g.slices (slice_number g a));
      log = λ c. (entry_opening (slice_get (map new_core programs) c) 0 (new_at programs c)).1;
    } in
    record {
      hands = λ c u e. rw (new_at programs c u e).1 tt;
      owners = fresh_owns x fresh;
      stamps = fresh_stamps x fresh;
      versions = fresh_versions x fresh;
    }

pub every_run : (g : ConfigParts) (programs : List (List Instruction)) (events : List Event) (w : World) → Run g (opening programs g.slices) events w → Keeps g w
every_run g programs events w run = run_keeps g (opening programs g.slices) events w run (opening_keeps g programs)
