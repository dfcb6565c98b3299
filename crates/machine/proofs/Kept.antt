-- The logs that are kept of units whose states are replays, and the slices that are left.
use Rattle.std.proofs.Common.{◌≡◌, ◌⊎◌, ℕ, List, [], length, Option, None, Some, Result, Ok, Err, inl, inr, refl, ap, sym, subst, cond}
use Rattle.std.specs.Prelude.{◌==◌, if◌then◌else◌, All, IfErr, slice_get}
use Rattle.std.specs.Option.{option_map_or}
use Rattle.std.proofs.lemmas.Bool.{cases_eq, eq-eqb, ne_eqb}
use Rattle.std.proofs.lemmas.Option.{get_or_from_slice_get, slice_get_within}
use Rattle.core_unit.specs.Kept.{Replays}
use Rattle.core_unit.specs.Parts.{UnitParts}
use Rattle.manager_slice.specs.Parts.{SliceParts}
use Rattle.manager_slice.specs.Replay.{Replays as SliceReplays}
use Rattle.audit.specs.Runs.{IsUnitLog, kept_log}
use Rattle.audit.specs.declared.machine_fault.MachineFault.{MachineFault}
use Rattle.audit.specs.declared.machine_fault.RunEnd.{RunEnd}
use Rattle.machine.specs.Runs.{AreSlices, AreSlicesLeft}

pub kept_logs : (us : List UnitParts) → All Replays us → (c : ℕ) → IsUnitLog c (kept_log us c) ⊎ (kept_log us c ≡ [])
kept_logs us each c = go (slice_get us c) refl
  where
    go : (o : Option UnitParts) → slice_get us c ≡ o
        → IsUnitLog c (option_map_or (λ u. if u.core == c then u.log else []) o []) ⊎ (option_map_or (λ u. if u.core == c then u.log else []) o [] ≡ [])
    go None is = inr refl
    go (Some u) is = elim (cases_eq u.core c) [
      | inl same ↦ inl (record {
        unit = u;
        is_core = same;
        replays = subst Replays (get_or_from_slice_get us c u u is) (each c u (slice_get_within us c u is));
        log_is = ap (λ b. cond b u.log []) (eq-eqb u.core c same);
      })
      | inr other ↦ inr (ap (λ b. cond b u.log []) (ne_eqb u.core c other))
    ]

-- of what a fault left
pub kept_after : (r : Result RunEnd MachineFault) (us : List UnitParts) → All Replays us → IfErr r (λ f. f.units.items ≡ us)
    → IfErr r (λ f. (c : ℕ) → IsUnitLog c (kept_log f.units.items c) ⊎ (kept_log f.units.items c ≡ []))
kept_after (Ok end) us each left = tt
kept_after (Err f) us each left =
    subst (λ (vs : List UnitParts). (c : ℕ) → IsUnitLog c (kept_log vs c) ⊎ (kept_log vs c ≡ [])) (sym left) (kept_logs us each)

pub slices_after : (r : Result RunEnd MachineFault) (ss : List SliceParts) → All SliceReplays ss → IfErr r (λ f. f.slices.items ≡ ss)
    → IfErr r (λ f. AreSlices (length ss) f.slices.items)
slices_after (Ok end) ss each left = tt
slices_after (Err f) ss each left = subst (AreSlices (length ss)) (sym left) (record { count = refl; replays = each })

-- all that there were
pub all_left : (r : Result RunEnd MachineFault) (m n : ℕ) → m ≡ n → IfErr r (λ f. AreSlices m f.slices.items)
    → IfErr r (λ f. AreSlicesLeft n f.cause f.units.items f.slices.items)
all_left (Ok end) m n same are = tt
all_left (Err f) m n same are = inl (subst (λ k. AreSlices k f.slices.items) same are)
