-- The verdict on the logs of a run.
use Rattle.std.proofs.Common.{◌≡◌, ◌∷◌, [], zero, suc, length, map, sym, subst, ◌∙◌, ℕ, inl, inr, false, List, refl}
use Rattle.std.specs.Prelude.{All, Option, Some, None, is_some, slice_get, slice_set}
use Rattle.std.specs.Option.{option_map}
use Rattle.std.proofs.lemmas.List.{length-map, length-set}
use Rattle.std.proofs.lemmas.Option.{slice_get-map}
use Rattle.mem_op.specs.Consistency.{IsConsistent}
use Rattle.mem_op.specs.declared.id.Op.{Op}
use Rattle.mem_op.specs.declared.id.OpId.{OpId}
use Rattle.lease_rule.specs.ConfigParts.{ConfigParts}
use Rattle.log_record.specs.declared.record.Record.{Record}
use Rattle.log_record.specs.Entries.{entries, operation_of, operations_of, record_at}
use Rattle.core_program.specs.declared.instruction.Instruction.{Instruction}
use Rattle.core_program.specs.Conforming.{program_fault}
use Rattle.core_program.specs.Shape.{IsProgram}
use Rattle.core_program.proofs.Faults.{no-fault}
use Rattle.core_check.specs.CoreFaults.{program_faults_from, program_faults}
use Rattle.verdict.specs.declared.answer.Verdict.TheVariants.{Yes}
use Rattle.verdict.specs.VerdictOf.{verdict_of, run_verdict_of}
use Rattle.verdict.specs.FlatMachine.{RunsFlat}
use Rattle.verdict.proofs.Bridge.{yes_is_consistent, run_yes_runs_flat}
use Rattle.verdict.proofs.Lists.{set_elsewhere}
use Rattle.core_unit.specs.Core.{Core, new_core, next_of}
use Rattle.core_unit.specs.declared.outcome.Outcome.{Outcome}
use Rattle.core_unit.proofs.Fronts.{Ran, ran_on}
use Rattle.core_machine.specs.Machine.{World, with_core, CoreLeads, turn_hits, turn_drops, turn_gives, turn_asks, turn_ends, takes, takes_nothing, takes_busy, recall_gives, evict_drops, evict_gives, increments, Leads, by_core, serves, spills, no_effect, Run, start, next, opening}
use Rattle.core_machine.specs.Works.{has_next}
use Rattle.core_machine.specs.declared.event.Event.{Event}
use Rattle.core_machine.proofs.Placed.{set_here}
use Rattle.machine_laws.specs.Settled.{settled, view, log_of}
use Rattle.machine_laws.specs.Laws.{IsReachedFrom, logs_of, HaveEnded}
use Rattle.machine_laws.proofs.Stamps.{which}
use Rattle.machine_laws.proofs.Keeping.{Keeps, same_core}
use Rattle.machine_laws.proofs.Opening.{every_run}
use Rattle.machine_laws.proofs.Rules.{AreLogs, no_order_faults, no_address_faults}

-- ---- the logs of the view

pub are_logs : (g : ConfigParts) (w : World) → AreLogs (view (settled g w)) (logs_of w)
are_logs g w = record {
  logged = λ c i q d. at c i q (slice_get w.cores c) refl d.is;
  did = λ id q e. record { is = back id q (slice_get w.cores id.core) refl e };
}
  where
    at : (c i : ℕ) (q : Record) (o : Option Core) → slice_get w.cores c ≡ o → slice_get (log_of o) i ≡ Some q → record_at (logs_of w) (record { core = c; index = i }) ≡ Some q
    at c i q None e h = absurd cc
    at c i q (Some u) e h = rw (slice_get-map (λ (u : Core). u.log) w.cores c, e) h

    back : (id : OpId) (q : Record) (o : Option Core) → slice_get w.cores id.core ≡ o → record_at (logs_of w) id ≡ Some q → slice_get (log_of o) id.index ≡ Some q
    back id q None e h = let z : None ≡ Some q = rw (slice_get-map (λ (u : Core). u.log) w.cores id.core, e) at h in absurd (cc)
    back id q (Some u) e h = rw (slice_get-map (λ (u : Core). u.log) w.cores id.core, e) at h

-- ---- without programs

pub gets_yes : (g : ConfigParts) (w : World) → Keeps g w → verdict_of (logs_of w) ≡ Yes (length (entries (logs_of w)))
gets_yes g w k =
    rw (no_order_faults (view (settled g w)) (logs_of w) (are_logs g w) k.versions, no_address_faults (view (settled g w)) (logs_of w) (are_logs g w) k.versions) refl

pub runs_get_yes : (programs : List (List Instruction)) (g : ConfigParts) (w : World) → IsReachedFrom programs g w → verdict_of (logs_of w) ≡ Yes (length (entries (logs_of w)))
runs_get_yes programs g w r = gets_yes g w (every_run g programs r.0 w r.1)

-- ---- each log is what its program issues

-- core c has the program at its place, and has performed its first operations
abbrev RunPrograms : List (List Instruction) → World → Type 0
RunPrograms programs w = (c : ℕ) (u : Core) → slice_get w.cores c ≡ Some u → (slice_get programs c ≡ Some u.program) × Ran u

core_runs : (programs : List (List Instruction)) (w : World) (c : ℕ) (u v : Core) → slice_get w.cores c ≡ Some u → v.program ≡ u.program → (Ran u → Ran v) → RunPrograms programs w → RunPrograms programs (with_core w c v)
core_runs programs w c u v at same on k d x ex = elim (which d c) [
  | inl i ↦
      let one : v ≡ x = same_core v x (sym (set_here w.cores c u v at) ∙ subst (λ (n : ℕ). slice_get (slice_set w.cores c v) n ≡ Some x) i ex) in
      subst (λ (z : Core). (slice_get programs d ≡ Some z.program) × Ran z) one (rw i (rw same (k c u at).0), on (k c u at).1)
  | inr n ↦ k d x (sym (set_elsewhere w.cores c d v n) ∙ ex)
]

core_ran : (g : ConfigParts) (c : ℕ) (u : Core) (e : Event) (o : Outcome) (v : Core) → CoreLeads g c u e o v → (v.program ≡ u.program) × (Ran u → Ran v)
core_ran g c u e o v (turn_hits x hit free issued hits) = (refl, ran_on g u x hit issued)
core_ran g c u e o v (turn_drops x b l free issued misses place there) = (refl, λ r. r)
core_ran g c u e o v (turn_gives x b m l free issued misses place there) = (refl, λ r. r)
core_ran g c u e o v (turn_asks x free issued misses place) = (refl, λ r. r)
core_ran g c u e o v (turn_ends free issued) = (refl, λ r. r)
core_ran g c u e o v (takes m x held hand kept fit place fills) = (refl, λ r. r)
core_ran g c u e o v (takes_nothing m hand kept gives_back) = (refl, λ r. r)
core_ran g c u e o v (takes_busy m x hand kept asks) = (refl, λ r. r)
core_ran g c u e o v (recall_gives x m l free there) = (refl, λ r. r)
core_ran g c u e o v (evict_drops b l free there) = (refl, λ r. r)
core_ran g c u e o v (evict_gives b m l free there) = (refl, λ r. r)
core_ran g c u e o v (increments free) = (refl, λ r. r)

leads_run : (programs : List (List Instruction)) (g : ConfigParts) (w : World) (e : Event) (o : Outcome) (t : World) → Leads g w e o t → RunPrograms programs w → RunPrograms programs t
leads_run programs g w e o t (by_core c e' o' u v at step) k = let on = core_ran g c u e' o' v step in core_runs programs w c u v at on.0 on.1 k
leads_run programs g w e o t (serves c u m x entries s s' at hand kept es step) k = core_runs programs w c u (record u { kept = Some x }) at refl (λ r. r) k
leads_run programs g w e o t (spills a s s' es gone) k = k
leads_run programs g w e o t (no_effect e' barred) k = k

run_runs : (programs : List (List Instruction)) (g : ConfigParts) (w : World) (events : List Event) (t : World) → Run g w events t → RunPrograms programs w → RunPrograms programs t
run_runs programs g w events t start k = k
run_runs programs g w events t (next es e o between t' run step) k = leads_run programs g between e o t' step (run_runs programs g w es between run k)

opening_runs : (programs : List (List Instruction)) (c : ℕ) (u : Core) → slice_get (map new_core programs) c ≡ Some u → (slice_get programs c ≡ Some u.program) × Ran u
opening_runs [] c u e = absurd cc
opening_runs (p ∷ ps) zero u e = subst (λ (z : Core). (Some p ≡ Some z.program) × Ran z) (same_core (new_core p) u e) (refl, refl)
opening_runs (p ∷ ps) (suc c) u e = opening_runs ps c u e

-- ---- with programs

-- a core whose program issues nothing more has its whole log
no_fault_of : (w : World) (c : ℕ) (u : Core) → slice_get w.cores c ≡ Some u → has_next w c ≡ false → Ran u → program_fault u.program (map operation_of u.log) ≡ None
no_fault_of w c u at ended ran = no-fault u.program (map operation_of u.log) u.state ran (none (next_of u) (rw at at ended))
  where
    none : (o : Option Op) → is_some o ≡ false → o ≡ None
    none None h = refl
    none (Some x) h = absurd cc

no_faults_from : (core : ℕ) (programs : List (List Instruction)) (logs : List (List Record)) →
    ((i : ℕ) (p : List Instruction) (log : List Record) → slice_get programs i ≡ Some p → slice_get logs i ≡ Some log → program_fault p (map operation_of log) ≡ None) → program_faults_from core programs logs ≡ []
no_faults_from core [] logs h = refl
no_faults_from core (p ∷ ps) [] h = refl
no_faults_from core (p ∷ ps) (log ∷ logs) h = rw (h 0 p log refl refl) (no_faults_from (suc core) ps logs (λ i q l e f. h (suc i) q l e f))

ended_faults : (programs : List (List Instruction)) (w : World) → RunPrograms programs w → HaveEnded w → program_faults programs (logs_of w) ≡ []
ended_faults programs w k ended = no_faults_from 0 programs (logs_of w) (λ i p log e f. at i p log e (slice_get w.cores i) refl (rw (slice_get-map (λ (u : Core). u.log) w.cores i) at f))
  where
    at : (i : ℕ) (p : List Instruction) (log : List Record) → slice_get programs i ≡ Some p → (o : Option Core) → slice_get w.cores i ≡ o → option_map (λ (u : Core). u.log) o ≡ Some log → program_fault p (map operation_of log) ≡ None
    at i p log e None f g = absurd cc
    at i p log e (Some u) f g =
        let same : Some u.program ≡ Some p = sym (k i u f).0 ∙ e in
        let one : u.program ≡ p = cc in
        let logged : u.log ≡ log = cc in
        rw (← one, ← logged) (no_fault_of w i u f (ended i) (k i u f).1)

pub ended_runs_get_yes : (programs : List (List Instruction)) (g : ConfigParts) (w : World) → IsReachedFrom programs g w → HaveEnded w → run_verdict_of programs (logs_of w) ≡ Yes (length (entries (logs_of w)))
ended_runs_get_yes programs g w r ended =
    let k : Keeps g w = every_run g programs r.0 w r.1 in
    let runs : RunPrograms programs w = run_runs programs g (opening programs g.slices) r.0 w r.1 (opening_runs programs) in
    rw (no_order_faults (view (settled g w)) (logs_of w) (are_logs g w) k.versions, ended_faults programs w runs ended, no_address_faults (view (settled g w)) (logs_of w) (are_logs g w) k.versions) refl

-- ---- what Yes says

pub runs_are_consistent : (programs : List (List Instruction)) (g : ConfigParts) (w : World) → IsReachedFrom programs g w → IsConsistent (operations_of (logs_of w))
runs_are_consistent programs g w r = yes_is_consistent (logs_of w) (length (entries (logs_of w))) (runs_get_yes programs g w r)

-- there is a log for each program
leads_length : (g : ConfigParts) (w : World) (e : Event) (o : Outcome) (t : World) → Leads g w e o t → length t.cores ≡ length w.cores
leads_length g w e o t (by_core c e' o' u v at step) = length-set w.cores c v
leads_length g w e o t (serves c u m x entries s s' at hand kept es step) = length-set w.cores c (record u { kept = Some x })
leads_length g w e o t (spills a s s' es gone) = refl
leads_length g w e o t (no_effect e' barred) = refl

pub run_length : (g : ConfigParts) (w : World) (events : List Event) (t : World) → Run g w events t → length t.cores ≡ length w.cores
run_length g w events t start = refl
run_length g w events t (next es e o between t' run step) = leads_length g between e o t' step ∙ run_length g w es between run

pub ended_runs_are_flat : (programs : List (List Instruction)) (g : ConfigParts) (w : World) → All IsProgram programs → IsReachedFrom programs g w → HaveEnded w → RunsFlat programs (operations_of (logs_of w))
ended_runs_are_flat programs g w are r ended =
    run_yes_runs_flat programs (logs_of w) (length (entries (logs_of w))) are
    (sym (length-map w.cores (λ u. u.log) ∙ run_length g (opening programs g.slices) r.0 w r.1 ∙ length-map programs new_core))
    (ended_runs_get_yes programs g w r ended)
