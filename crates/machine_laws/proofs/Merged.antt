-- The verdict on the logs of units and slices whose lists have a merge.
use Rattle.std.proofs.Common.{◌≡◌, ◌∷◌, [], length, map, ap, subst, false, List, refl}
use Rattle.std.specs.Prelude.{Option, Some, None, is_some, slice_get}
use Rattle.std.specs.Option.{option_map, option_map_or}
use Rattle.std.proofs.lemmas.Option.{slice_get-map}
use Rattle.lease_rule.specs.ConfigParts.{ConfigParts}
use Rattle.log_record.specs.declared.record.Record.{Record}
use Rattle.log_record.specs.Entries.{entries}
use Rattle.core_program.specs.declared.instruction.Instruction.{Instruction}
use Rattle.core_program.proofs.Faults.{ended-issues}
use Rattle.verdict.specs.declared.answer.Verdict.TheVariants.{Yes}
use Rattle.verdict.specs.VerdictOf.{verdict_of, run_verdict_of}
use Rattle.manager_slice.specs.Parts.{SliceParts}
use Rattle.core_unit.specs.Core.{Core, next_of}
use Rattle.core_unit.specs.Parts.{UnitParts, core_of, replayed}
use Rattle.audit.specs.Events.{AreOneMachine, world_of}
use Rattle.audit.specs.Lists.{transcripts, histories}
use Rattle.audit.specs.Merges.{HasMerge}
use Rattle.audit.specs.Runs.{IsRun}
use Rattle.audit.proofs.Gathered.{merges_run, whole_runs_run}
use Rattle.machine_laws.specs.Laws.{unit_logs, HaveEnded}
use Rattle.machine_laws.proofs.Judged.{runs_get_yes, ended_runs_get_yes}

-- a unit has the same log as the core of the machine that it is
pub same_logs : (f : UnitParts → Core) → ((u : UnitParts) → (f u).log ≡ u.log) → (us : List UnitParts) → map (λ (u : Core). u.log) (map f us) ≡ unit_logs us
same_logs f same [] = refl
same_logs f same (u ∷ us) = rw (same u, same_logs f same us) refl

pub merged_logs_get_yes : (g : ConfigParts) (us : List UnitParts) (ss : List SliceParts) → AreOneMachine g us ss → HasMerge (transcripts us) (histories ss) → verdict_of (unit_logs us) ≡ Yes (length (entries (unit_logs us)))
merged_logs_get_yes g us ss one merge =
    let run = merges_run g us ss merge.order one merge.merges in
    subst (λ (logs : List (List Record)). verdict_of logs ≡ Yes (length (entries logs))) (same_logs replayed (λ u. refl) us)
    (runs_get_yes (map (λ (u : UnitParts). u.program) us) g (world_of (map replayed us) ss) (run.events, run.run))

-- a unit that has run its program to its end issues nothing more
ended_has_no_next : (programs : List (List Instruction)) (g : ConfigParts) (us : List UnitParts) (ss : List SliceParts) → IsRun programs g us ss → HaveEnded (world_of (map (λ u. core_of u None) us) ss)
ended_has_no_next programs g us ss run c = rw (slice_get-map (λ (u : UnitParts). core_of u None) us c) (go (slice_get us c) refl)
  where
    go : (o : Option UnitParts) → slice_get us c ≡ o → option_map_or (λ (u : Core). is_some (next_of u)) (option_map (λ (u : UnitParts). core_of u None) o) false ≡ false
    go None e = refl
    go (Some u) e = ap is_some (ended-issues u.program u.state (run.units c u e).ended)

pub whole_runs_get_yes : (programs : List (List Instruction)) (g : ConfigParts) (us : List UnitParts) (ss : List SliceParts) → IsRun programs g us ss → run_verdict_of programs (unit_logs us) ≡ Yes (length (entries (unit_logs us)))
whole_runs_get_yes programs g us ss run =
    let led = whole_runs_run programs g us ss run.merge.order run run.merge.merges in
    subst (λ (logs : List (List Record)). run_verdict_of programs logs ≡ Yes (length (entries logs))) (same_logs (λ u. core_of u None) (λ u. refl) us)
    (ended_runs_get_yes programs g (world_of (map (λ u. core_of u None) us) ss) (led.events, led.run) (ended_has_no_next programs g us ss run))
