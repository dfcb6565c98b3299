-- The logs of so many cores, from core 0 on, where these are all.
use Rattle.std.proofs.Common.{◌≡◌, ◌<◌, ◌≤◌, ℕ, zero, suc, ◌+◌, List, [], ◌∷◌, ◌++◌, length, map, take, false, inl, inr, refl, sym, ap, subst, ◌∙◌, arith}
use Rattle.std.specs.Prelude.{Option, Some, None, is_some, option_map, slice_get}
use Rattle.std.specs.Option.{option_map_or}
use Rattle.std.proofs.lemmas.Bool.{cases_lt}
use Rattle.std.proofs.lemmas.List.{length-map, take_more, take_all}
use Rattle.std.proofs.lemmas.Option.{get_or_from_slice_get, slice_get-map, slice_get_past, slice_get_within}
use Rattle.lease_rule.specs.ConfigParts.{ConfigParts}
use Rattle.log_record.specs.declared.record.Record.{Record}
use Rattle.core_program.specs.declared.instruction.Instruction.{Instruction}
use Rattle.manager_slice.specs.Parts.{SliceParts}
use Rattle.core_unit.specs.Core.{Core, new_core, next_of}
use Rattle.core_unit.specs.Parts.{UnitParts, core_of}
use Rattle.core_machine.specs.Machine.{World, opening}
use Rattle.core_machine.specs.Works.{has_next, log_at, logs_below}
use Rattle.audit.specs.Events.{world_of}
use Rattle.audit.specs.Runs.{IsRun}
use Rattle.machine_laws.specs.Laws.{GetYesBy, HaveEnded, IsReachedFrom, logs_of}
use Rattle.machine_laws.proofs.Judged.{ended_runs_get_yes, run_length}
use Rattle.machine_laws.proofs.Merged.{same_logs, whole_runs_get_yes}

-- a core that is there has its log at its place
log_here : (w : World) (c : ℕ) → c < length w.cores → slice_get (logs_of w) c ≡ Some (log_at w c)
log_here w c below = rw (slice_get-map (λ (u : Core). u.log) w.cores c) (go (slice_get w.cores c) refl)
  where
    go : (o : Option Core) → slice_get w.cores c ≡ o → option_map (λ (u : Core). u.log) o ≡ Some (option_map_or (λ (u : Core). u.log) o [])
    go None e = absurd (there w.cores c below e)
      where
        there : (us : List Core) (c : ℕ) → c < length us → slice_get us c ≡ None → ⊥
        there [] c below e = omega arith
        there (u ∷ us) zero below e = cc
        there (u ∷ us) (suc c) below e = there us c (omega arith) e
    go (Some u) e = refl

below_is : (w : World) (n : ℕ) → n ≤ length w.cores → logs_below w n ≡ take n (logs_of w)
below_is w zero le = refl
below_is w (suc n) le =
    let at = log_here w n (omega arith) in
    let more : suc n ≡ n + 1 = omega arith in
    ap (λ (ls : List (List Record)). ls ++ log_at w n ∷ []) (below_is w n (omega arith))
    ∙ sym (ap (λ m. take m (logs_of w)) more ∙ take_more (logs_of w) n (log_at w n) (slice_get_within (logs_of w) n (log_at w n) at)
    ∙ ap (λ (l : List Record). take n (logs_of w) ++ l ∷ []) (get_or_from_slice_get (logs_of w) n (log_at w n) (log_at w n) at))

all_below : (w : World) → logs_below w (length w.cores) ≡ logs_of w
all_below w =
    below_is w (length w.cores) (omega arith)
    ∙ take_all (length w.cores) (logs_of w) (omega (arith, length-map w.cores (λ (u : Core). u.log)))

-- a core that isn't there has no operation left
none_past : (w : World) (c : ℕ) → length w.cores ≤ c → has_next w c ≡ false
none_past w c past = ap (λ (o : Option Core). option_map_or (λ (u : Core). is_some (next_of u)) o false) (slice_get_past w.cores c past)

-- where no core of at most 64 has an operation left, the logs get Yes
pub ended_below_get_yes : (programs : List (List Instruction)) (g : ConfigParts) (w : World) → length programs ≤ 64 → IsReachedFrom programs g w
    → ((c : ℕ) → c < 64 → has_next w c ≡ false) → GetYesBy programs (logs_below w (length programs))
ended_below_get_yes programs g w few reached none =
    let count : length w.cores ≡ length programs = run_length g (opening programs g.slices) reached.0 w reached.1 ∙ length-map programs new_core in
    let ended : HaveEnded w = λ c. elim (cases_lt c 64) [ inl below ↦ none c below | inr past ↦ none_past w c (omega arith) ] in
    subst (λ n. GetYesBy programs (logs_below w n)) count (subst (GetYesBy programs) (sym (all_below w)) (ended_runs_get_yes programs g w reached ended))

-- so do those of a whole run by threads
pub whole_below_get_yes : (programs : List (List Instruction)) (g : ConfigParts) (us : List UnitParts) (ss : List SliceParts) → IsRun programs g us ss
    → GetYesBy programs (logs_below (world_of (map (λ u. core_of u None) us) ss) (length programs))
whole_below_get_yes programs g us ss run =
    let w : World = world_of (map (λ u. core_of u None) us) ss in
    let count : length w.cores ≡ length programs = length-map us (λ u. core_of u None) ∙ run.cores in
    subst (λ n. GetYesBy programs (logs_below w n)) count
    (subst (GetYesBy programs) (sym (all_below w ∙ same_logs (λ u. core_of u None) (λ u. refl) us)) (whole_runs_get_yes programs g us ss run))
