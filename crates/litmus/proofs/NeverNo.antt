-- No run's logs get No.
use Rattle.std.proofs.Common.{◌≤◌, ℕ, [], length, subst}
use Rattle.std.specs.Prelude.{Option, Some, Result, Ok, Err, IfErr, MatchResult}
use Rattle.lease_rule.specs.ConfigParts.{ConfigParts}
use Rattle.core_machine.specs.Machine.{World, Run}
use Rattle.core_machine.specs.Opening.{opening_parts}
use Rattle.core_machine.specs.Parts.{CoreParts, world}
use Rattle.core_machine.proofs.Opened.{opening_world}
use Rattle.machine_laws.specs.Laws.{GetYesBy}
use Rattle.machine_laws.proofs.Below.{ended_below_get_yes, whole_below_get_yes}
use Rattle.simulation.specs.Events.{simulated_events}
use Rattle.simulation.proofs.Ended.{simulated_ended}
use Rattle.litmus.specs.Parts.{LitmusParts}
use Rattle.litmus.specs.Ends.{ThreadEnd, SaysNo, left, logs_of}
use Rattle.litmus.specs.Runs.{IsCauseOf, IsRunCause, IsSeededRun, IsThreadCause, IsThreadRun, IsUnsimulated, IsUnthreaded, no_memory, not_ended, not_yes}
use Rattle.litmus.specs.declared.run_cause.RunCause.{RunCause}
use Rattle.litmus.specs.declared.run_cause.RunCause.TheVariants as cause

seeded_yes : (t : LitmusParts) (g : ConfigParts) (seed : ℕ) (stress : Option ℕ) (q : CoreParts) → length t.programs ≤ 64 → IsSeededRun t g seed stress q → GetYesBy t.programs (logs_of t (world q))
seeded_yes t g seed stress q few (did, run) =
    ended_below_get_yes t.programs g (world q) few
    (simulated_events [] (Some seed) stress (opening_parts t.programs g) q did, subst (λ (w : World). Run g w (simulated_events [] (Some seed) stress (opening_parts t.programs g) q did) (world q)) (opening_world t.programs g) run.run)
    (simulated_ended [] (Some seed) stress (opening_parts t.programs g) q did)

threaded_yes : (t : LitmusParts) (g : ConfigParts) (end : ThreadEnd) → IsThreadRun t g end → GetYesBy t.programs (logs_of t (left end))
threaded_yes t g end ran = whole_below_get_yes t.programs g end.units end.slices ran.0

-- so none of them gets No
never_no : {E : Type 0} (Ran : E → Type 0) (NotEnded : RunCause → Type 0) (at : E → World) (t : LitmusParts) (why : RunCause)
    → (NotEnded why → SaysNo why → ⊥) → ((end : E) → Ran end → GetYesBy t.programs (logs_of t (at end))) → IsCauseOf E Ran NotEnded at t why → SaysNo why → ⊥
never_no Ran NotEnded at t (cause.No fault) unended each (not_ended n) told = unended n told
never_no Ran NotEnded at t (cause.No fault) unended each (not_yes end ran judged) told = let gets = each end ran in cc
never_no Ran NotEnded at t (cause.No fault) unended each (no_memory e) told = cc
never_no Ran NotEnded at t (cause.Simulation reason) unended each is told = told
never_no Ran NotEnded at t (cause.Threads reason) unended each is told = told
never_no Ran NotEnded at t cause.OutOfMemory unended each is told = told

not_simulated : (t : LitmusParts) (g : ConfigParts) (seed : ℕ) (stress : Option ℕ) (why : RunCause) → IsUnsimulated t g seed stress why → SaysNo why → ⊥
not_simulated t g seed stress why (q, reason, is, e) told = subst SaysNo e told

not_threaded : (t : LitmusParts) (why : RunCause) → IsUnthreaded t why → SaysNo why → ⊥
not_threaded t why (reason, is, e) told = subst SaysNo e told

pub seeded_cause_is_no_no : (t : LitmusParts) (g : ConfigParts) (seed : ℕ) (stress : Option ℕ) → length t.programs ≤ 64 → (why : RunCause) → IsRunCause t g seed stress why → SaysNo why → ⊥
seeded_cause_is_no_no t g seed stress few why is =
    never_no (IsSeededRun t g seed stress) (IsUnsimulated t g seed stress) world t why (not_simulated t g seed stress why) (λ q. seeded_yes t g seed stress q few) is

pub seeded_never_no : {A : Type 0} (t : LitmusParts) (g : ConfigParts) (seed : ℕ) (stress : Option ℕ) → length t.programs ≤ 64 → (r : Result A RunCause) (Holds : A → Type 0)
    → MatchResult r Holds (λ why. IsRunCause t g seed stress why) → IfErr r (λ why. ¬ (SaysNo why))
seeded_never_no t g seed stress few (Ok x) Holds is = tt
seeded_never_no t g seed stress few (Err why) Holds is = seeded_cause_is_no_no t g seed stress few why is

pub threaded_never_no : {A : Type 0} (t : LitmusParts) (g : ConfigParts) (r : Result A RunCause) (Holds : A → Type 0)
    → MatchResult r Holds (λ why. IsThreadCause t g why) → IfErr r (λ why. ¬ (SaysNo why))
threaded_never_no t g (Ok x) Holds is = tt
threaded_never_no t g (Err why) Holds is = never_no (IsThreadRun t g) (IsUnthreaded t) left t why (not_threaded t why) (λ end. threaded_yes t g end) is
