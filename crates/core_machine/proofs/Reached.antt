-- Runs that go on.
use Rattle.std.proofs.Common.{◌≡◌, ℕ, ◌+◌, ◌<◌, List, [], ◌∷◌, ◌++◌, length, take, get_or, refl, sym, ap, subst, ◌∙◌}
use Rattle.std.specs.Prelude.{Option, Some, None, option_and_then, Ok, Err}
use Rattle.std.proofs.lemmas.List.{take_more}
use Rattle.std.proofs.lemmas.Option.{slice_get-get_or}
use Rattle.lease_rule.specs.ConfigParts.{ConfigParts}
use Rattle.core_program.specs.declared.instruction.Instruction.{Instruction}
use Rattle.core_unit.specs.declared.outcome.Outcome.{Outcome}
use Rattle.core_machine.specs.Machine.{World, Leads, Run, start, next, opening}
use Rattle.core_machine.specs.Opening.{opening_parts}
use Rattle.core_machine.specs.Parts.{CoreParts, world}
use Rattle.core_machine.specs.Runs.{behind, run_from, MayRefuse, IsRefusedAt}
use Rattle.core_machine.specs.Steps.{StepOutcome, Refuses, Answers, Steps, OutcomeLeads, MachineLeads, step_outcome}
use Rattle.core_machine.specs.declared.event.Event.{Event}
use Rattle.core_machine.specs.declared.fault.CoreFault.{CoreFault}

pub behind_met : (x : StepOutcome) (o : Outcome) (p q : CoreParts) → OutcomeLeads x (Ok o) p q → behind x ≡ Some q
behind_met (Refuses f) o p q m = let e = m.0 in absurd (cc)
behind_met (Answers y t) o p q m = ap (λ z. Some z) (sym m.1)
behind_met (Steps w y t) o p q m = ap (λ z. Some z) (sym m.1)

pub may_refuse : (x : StepOutcome) (f : CoreFault) (p q : CoreParts) → OutcomeLeads x (Err f) p q → MayRefuse x f
may_refuse (Refuses due) f p q m = let e = m.0 in cc
may_refuse (Answers y t) f p q m = let e = m.0 in absurd (cc)
may_refuse (Steps w y t) f p q m = m.0

pub run_from-push : (p : CoreParts) (events : List Event) (e : Event)
    → run_from p (events ++ e ∷ []) ≡ option_and_then (λ q. behind (step_outcome q e)) (run_from p events)
run_from-push p [] e = only (behind (step_outcome p e))
  where
    only : (o : Option CoreParts) → option_and_then (λ q. Some q) o ≡ o
    only None = refl
    only (Some q) = refl
run_from-push p (x ∷ events) e = by_first (λ q. run_from-push q events e) (behind (step_outcome p x))
  where
    by_first : ((q : CoreParts) → run_from q (events ++ e ∷ []) ≡ option_and_then (λ t. behind (step_outcome t e)) (run_from q events)) → (o : Option CoreParts)
        → option_and_then (λ q. run_from q (events ++ e ∷ [])) o ≡ option_and_then (λ q. behind (step_outcome q e)) (option_and_then (λ q. run_from q events) o)
    by_first later None = refl
    by_first later (Some q) = later q

-- the machine after the first events of a run
pub record IsRunSoFar (programs : List (List Instruction)) (g : ConfigParts) (events : List Event) (p : CoreParts) : Type 0 where
  pub reached : run_from (opening_parts programs g) events ≡ Some p
  pub run : Run g (opening programs g.slices) events (world p)
  pub config : p.config ≡ g

module _ (programs : List (List Instruction)) (g : ConfigParts) (events : List Event) (n : ℕ) (e : Event) (below : n < length events) (here : e ≡ get_or events n e)
    (p q : CoreParts) (so_far : IsRunSoFar programs g (take n events) p) where
  one_more : take (n + 1) events ≡ take n events ++ e ∷ []
  one_more = take_more events n e below ∙ ap (λ x. take n events ++ x ∷ []) (sym here)

  pub reached_next : (o : Outcome) → OutcomeLeads (step_outcome p e) (Ok o) p q → MachineLeads e p (Ok o) q → IsRunSoFar programs g (take (n + 1) events) q
  reached_next o met led =
      let leads = subst (λ (x : ConfigParts). Leads x (world p) e o (world q)) so_far.config led.leads in
      subst (λ (es : List Event). IsRunSoFar programs g es q) (sym one_more)
      (record {
        reached = run_from-push (opening_parts programs g) (take n events) e ∙ ap (option_and_then (λ x. behind (step_outcome x e))) so_far.reached
            ∙ behind_met (step_outcome p e) o p q met;
        run = next (take n events) e o (world p) (world q) so_far.run leads;
        config = led.config ∙ so_far.config;
      })

  pub refused_here : (f : CoreFault) → OutcomeLeads (step_outcome p e) (Err f) p q → IsRefusedAt programs g events n f
  refused_here f met = record {
    machine = p;
    reached = so_far.reached;
    run = so_far.run;
    event = e;
    stands = slice_get-get_or events n e below ∙ ap (λ x. Some x) (sym here);
    refused = may_refuse (step_outcome p e) f p q met;
  }

pub reached_start : (programs : List (List Instruction)) (g : ConfigParts) (p : CoreParts) → p ≡ opening_parts programs g → world p ≡ opening programs g.slices
    → IsRunSoFar programs g [] p
reached_start programs g p parts seen = record {
  reached = ap (λ x. Some x) (sym parts);
  run = subst (λ (w : World). Run g (opening programs g.slices) [] w) (sym seen) start;
  config = ap (λ (x : CoreParts). x.config) parts;
}
