-- What rounds do is a run of the machine.
use Rattle.std.proofs.Common.{arith, true, ◌≡◌, ℕ, List, [], ◌∷◌, ◌++◌, refl, sym, ap, subst, ◌∙◌}
use Rattle.std.specs.Prelude.{Option, Some, None, option_and_then}
use Rattle.log_record.specs.declared.record.Record.{Record}
use Rattle.lease_rule.specs.ConfigParts.{ConfigParts}
use Rattle.core_machine.specs.Machine.{World, Leads, Run, start, next}
use Rattle.core_machine.specs.Parts.{CoreParts, world}
use Rattle.tardis_core.specs.Rounds.{EventLeads, IsRun, IsRunTo, Stage, Part, begins, makes, passes, IsPart, IsStopped, Rounds, no_round, one_more, StillWaits, IsOp, IsOpFault, gave_up, stopped, Ops, no_op, next_op, IsFinishFault}
use Rattle.core_machine.specs.Runs.{behind, run_from}
use Rattle.core_machine.specs.Steps.{step_outcome}
use Rattle.core_machine.specs.Works.{has_next}
use Rattle.tardis_core.specs.Hands.{HasPerformed, SameWork}
use Rattle.core_machine.specs.declared.event.Event.{Event}
use Rattle.tardis_core.specs.declared.rounds.fault.RoundFault.{RoundFault}
use Rattle.core_machine.proofs.Appended.{run-append}
use Rattle.core_machine.proofs.Reached.{behind_met, run_from-push}

-- ---- runs, one after the other

run_from-append : (p : CoreParts) (es fs : List Event) → run_from p (es ++ fs) ≡ option_and_then (λ q. run_from q fs) (run_from p es)
run_from-append p [] fs = refl
run_from-append p (e ∷ es) fs = by_first (λ q. run_from-append q es fs) (behind (step_outcome p e))
  where
    by_first : ((q : CoreParts) → run_from q (es ++ fs) ≡ option_and_then (λ t. run_from t fs) (run_from q es)) → (o : Option CoreParts)
        → option_and_then (λ q. run_from q (es ++ fs)) o ≡ option_and_then (λ q. run_from q fs) (option_and_then (λ q. run_from q es) o)
    by_first later None = refl
    by_first later (Some q) = later q

pub no_run : (p : CoreParts) → IsRun p [] p
no_run p = record { reached = refl; run = start; config = refl }

pub run_more : (p q t : CoreParts) (es : List Event) (e : Event) (o : _) → IsRun p es q → EventLeads q e o t → IsRun p (es ++ e ∷ []) t
run_more p q t es e o x made = record {
  reached = run_from-push p es e ∙ ap (option_and_then (λ y. behind (step_outcome y e))) x.reached ∙ behind_met (step_outcome q e) o q t made.met;
  run = next es e o (world q) (world t) x.run (subst (λ (g : ConfigParts). Leads g (world q) e o (world t)) x.config made.leads);
  config = made.config ∙ x.config;
}

-- one run after another
pub run_then : (p q t : CoreParts) (es fs : List Event) → IsRun p es q → IsRun q fs t → IsRun p (es ++ fs) t
run_then p q t es fs x y = record {
  reached = run_from-append p es fs ∙ ap (option_and_then (λ z. run_from z fs)) x.reached ∙ y.reached;
  run = run-append p.config (world p) es (world q) x.run fs (world t)
      (subst (λ (g : ConfigParts). Run g (world q) fs (world t)) x.config y.run);
  config = y.config ∙ x.config;
}

pub then_run : (p q t : CoreParts) → IsRunTo p q → IsRunTo q t → IsRunTo p t
then_run p q t x y = record { events = x.events ++ y.events; run = run_then p q t x.events y.events x.run y.run }

pub stays : (p : CoreParts) → IsRunTo p p
stays p = record { events = []; run = no_run p }

-- ---- rounds

pub part_runs : (c : ℕ) (from : Stage) (p : CoreParts) (es : List Event) (q : CoreParts) (to : Stage) → Part c from p es q to → IsRun p es q
part_runs c from p es q to begins = no_run p
part_runs c from p es q to (makes fs r stage e o t x is made) = run_more p r t fs e o (part_runs c from p fs r stage x) made
part_runs c from p es q to (passes fs r stage x nothing) = part_runs c from p fs r stage x

pub part_run : (c : ℕ) (from : Stage) (p q : CoreParts) (to : Stage) → IsPart c from p q to → IsRunTo p q
part_run c from p q to x = record { events = x.events; run = part_runs c from p x.events q to x.part }

pub stopped_run : (c : ℕ) (from : Stage) (p q : CoreParts) (fault : RoundFault) → IsStopped c from p q fault → IsRunTo p q
stopped_run c from p q fault x = part_run c from p q x.stage x.so_far

pub rounds_run : (c : ℕ) (p : CoreParts) (n : ℕ) (q : CoreParts) → Rounds c p n q → IsRunTo p q
rounds_run c p n q no_round = stays p
rounds_run c p n q (one_more m r t x waits last) = then_run p r t (rounds_run c p m r x) (part_run c _ r t _ last)

pub op_run : (c : ℕ) (p q : CoreParts) → IsOp c p q → IsRunTo p q
op_run c p q x = rounds_run c p x.count q x.rounds

pub op_fault_run : (c : ℕ) (p q : CoreParts) (fault : RoundFault) → IsOpFault c p q fault → IsRunTo p q
op_fault_run c p q fault (gave_up x waits is) = rounds_run c p 1000 q x
op_fault_run c p q fault (stopped n r below x waits refused) = then_run p r q (rounds_run c p n r x) (stopped_run c _ r q fault refused)

pub ops_run : (c : ℕ) (p q : CoreParts) → Ops c p q → IsRunTo p q
ops_run c p q no_op = stays p
ops_run c p q (next_op r t x last) = then_run p r t (ops_run c p r x) (op_run c r t last)

pub finish_fault_run : (c : ℕ) (p q : CoreParts) (fault : RoundFault) → IsFinishFault c p q fault → IsRunTo p q
finish_fault_run c p q fault x = then_run p x.between q (ops_run c p x.between x.ops) (op_fault_run c x.between q fault x.fault_of)

-- ---- rounds without an operation, and one with it

pub performed_later : (c : ℕ) (w x y : World) → SameWork c w x → HasPerformed c x y → HasPerformed c w y
performed_later c w x y same did = record {
  had_next = sym same.next ∙ did.had_next;
  made = did.made;
  log = did.log ∙ ap (λ (log : List Record). log ++ did.made ∷ []) same.log;
  left = omega (arith, same.left, did.left);
  hand = did.hand;
}

pub still_waits : (c : ℕ) (p q : CoreParts) → has_next (world p) c ≡ true → SameWork c (world p) (world q) → StillWaits c p q
still_waits c p q waits same = record { next = same.next ∙ waits; log = same.log }
