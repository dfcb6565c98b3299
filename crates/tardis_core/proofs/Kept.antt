-- The events that a machine keeps lead to it, one event after the other.
use Rattle.std.proofs.Common.{◌≡◌, List, [], ◌∷◌, ◌++◌, sym, ap, subst, ◌∙◌}
use Rattle.std.specs.Prelude.{Option, Some, None, IfSome, IsSomeAnd, Ok, option_and_then}
use Rattle.lease_rule.specs.ConfigParts.{ConfigParts}
use Rattle.core_program.specs.declared.instruction.Instruction.{Instruction}
use Rattle.core_unit.specs.declared.outcome.Outcome.{Outcome}
use Rattle.core_machine.specs.Opening.{opening_parts}
use Rattle.core_machine.specs.Parts.{CoreParts}
use Rattle.core_machine.specs.Runs.{behind, run_from}
use Rattle.core_machine.specs.Steps.{OutcomeLeads, step_outcome}
use Rattle.core_machine.specs.declared.event.Event.{Event}
use Rattle.core_machine.proofs.Reached.{behind_met, run_from-push}
use Rattle.tardis_core.specs.Keeping.{LeadTo}

-- none lead to a machine at its start
pub none_lead : (programs : List (List Instruction)) (g : ConfigParts) (p : CoreParts) → p ≡ opening_parts programs g → LeadTo [] p
none_lead programs g p is = record {
  programs = programs;
  leads = ap (λ x. Some x) (ap (λ (x : CoreParts). opening_parts programs x.config) is ∙ sym is);
}

-- one more leads on
lead_on : (events : List Event) (e : Event) (o : Outcome) (p q : CoreParts) → LeadTo events p → OutcomeLeads (step_outcome p e) (Ok o) p q → q.config ≡ p.config → LeadTo (events ++ e ∷ []) q
lead_on events e o p q led met same = record {
  programs = led.programs;
  leads = subst (λ (g : ConfigParts). run_from (opening_parts led.programs g) (events ++ e ∷ []) ≡ Some q) (sym same)
      (run_from-push (opening_parts led.programs p.config) events e ∙ ap (option_and_then (λ x. behind (step_outcome x e))) led.leads ∙ behind_met (step_outcome p e) o p q met);
}

-- the events that are kept then, in any list that shows them so, if they are still kept
pub kept_on : {V : Type 0} (old new : Option V) (items : V → List Event) (e : Event) (o : Outcome) (p q : CoreParts) → IfSome old (λ kept. LeadTo (items kept) p)
    → IfSome new (λ kept. IsSomeAnd old (λ before. items kept ≡ items before ++ e ∷ []))
    → OutcomeLeads (step_outcome p e) (Ok o) p q → q.config ≡ p.config → IfSome new (λ kept. LeadTo (items kept) q)
kept_on old None items e o p q led more met same = tt
kept_on None (Some kept) items e o p q led more met same = absurd more
kept_on (Some before) (Some kept) items e o p q led more met same = subst (λ (es : List Event). LeadTo es q) (sym more) (lead_on (items before) e o p q led met same)
