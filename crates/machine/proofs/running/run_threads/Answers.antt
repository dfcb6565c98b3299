use Rattle.std.proofs.Common.{◌∙◌, ap, sym, inr}
use Rattle.lease_rule.specs.ConfigParts.{ConfigParts}
use Rattle.machine.proofs.Kept.{all_left}
use Rattle.machine.proofs.running.run_threads.Goals as goal

pub returns-in_default-clause-slices : goal.returns-in_default-clause-slices
returns-in_default-clause-slices g c =
    inr (record { refused = c.no_memory.ensures.cause; units = c.no_memory.ensures.units; slices = c.no_memory.ensures.slices })

pub returns-in_default-inboxes_of-clause-slices : goal.returns-in_default-inboxes_of-clause-slices
returns-in_default-inboxes_of-clause-slices g c =
    inr (record { refused = c.no_memory-in_default-inboxes_of.ensures.cause; units = c.no_memory-in_default-inboxes_of.ensures.units; slices = c.no_memory-in_default-inboxes_of.ensures.slices })

pub returns-in_default-new-clause-slices : goal.returns-in_default-new-clause-slices
returns-in_default-new-clause-slices g c =
    inr (record { refused = c.no_memory-in_default-new.ensures.cause; units = c.no_memory-in_default-new.ensures.units; slices = c.no_memory-in_default-new.ensures.slices })

pub returns-in_default-run_units-clause-slices : goal.returns-in_default-run_units-clause-slices
returns-in_default-run_units-clause-slices g c =
    inr (record { refused = c.no_memory-in_default-run_units.ensures.cause; units = c.no_memory-in_default-run_units.ensures.units; slices = c.no_memory-in_default-run_units.ensures.slices })

pub returns-clause-slices : goal.returns-clause-slices
returns-clause-slices g c =
    all_left c.accepted.result _ _ (sym c.into_slices.result.ok.0 ∙ c.into_slices.ensures ∙ ap (λ (b : ConfigParts). b.slices) c.in-Ok-new.ensures.config) c.accepted.ensures.slices
