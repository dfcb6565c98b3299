-- The order of core faults is total, faults that tie are one, and the order that the code derives is this one.
use Rattle.std.specs.Prelude.{◌≡◌, refl}
use Rattle.std.proofs.Common.{arith}
use Rattle.std.specs.declared.cmp.Ordering.{Ordering}
use Rattle.std.specs.declared.cmp.Ordering.TheVariants.{Less, Equal, Greater}
use Rattle.std.specs.Cmp.{IsTotalOrder}
use Rattle.std.specs.Ordering.{nat_cmp, ordering_then}
use Rattle.std.proofs.lemmas.Cmp.{nat_cmp_total, on_total, then_total}
use Rattle.std.proofs.lemmas.Map.Lookups.{exact_unsigned}
use Rattle.line_stamps.proofs.Keys.{both_equal}
use Rattle.mem_op.specs.Parts.{IdParts}
use Rattle.core_check.specs.declared.fault.CoreRule.{CoreRule}
use Rattle.core_check.specs.declared.fault.CoreRule.TheVariants.{CoreOrder, Program}
use Rattle.core_check.specs.FaultParts.{CoreFaultParts}
use Rattle.core_check.specs.FaultOrder.{rule_number, core_fault_cmp}
use Rattle.core_check.specs.contracts.fault.RuleFaultOrd.TheImpl.{ghosts}

pub core_fault_total : IsTotalOrder core_fault_cmp
core_fault_total =
    then_total (on_total (λ f. rule_number f.rule) nat_cmp_total)
    (then_total (on_total (λ f. f.id.core) nat_cmp_total) (on_total (λ f. f.id.index) nat_cmp_total))

same_rule : (a b : CoreRule) → rule_number a ≡ rule_number b → a ≡ b
same_rule CoreOrder CoreOrder h = refl
same_rule CoreOrder Program h = absurd (omega arith)
same_rule Program CoreOrder h = absurd (omega arith)
same_rule Program Program h = refl

pub tied_core_faults : (a b : CoreFaultParts) → core_fault_cmp a b ≡ Equal → a ≡ b
tied_core_faults a b h =
    let by_rule = both_equal (nat_cmp (rule_number a.rule) (rule_number b.rule)) _ h in
    let by_id = both_equal (nat_cmp a.id.core b.id.core) (nat_cmp a.id.index b.id.index) by_rule.1 in
    let rule : a.rule ≡ b.rule = same_rule a.rule b.rule (exact_unsigned _ _ by_rule.0) in
    let core : a.id.core ≡ b.id.core = exact_unsigned _ _ by_id.0 in
    let index : a.id.index ≡ b.id.index = exact_unsigned _ _ by_id.1 in
    λ i. record { rule = rule i; id = record { core = core i; index = index i } }

abbrev with_rule : CoreRule → IdParts → CoreFaultParts
with_rule rule id = record { rule = rule; id = id }

by_rules : (r s : CoreRule) (a b : IdParts) → core_fault_cmp (with_rule r a) (with_rule s b) ≡ ghosts.cmp (with_rule r a) (with_rule s b)
by_rules CoreOrder CoreOrder a b = refl
by_rules CoreOrder Program a b = refl
by_rules Program CoreOrder a b = refl
by_rules Program Program a b = refl

pub derived_cmp : core_fault_cmp ≡ ghosts.cmp
derived_cmp = λ i a b. by_rules a.rule b.rule a.id b.id i
