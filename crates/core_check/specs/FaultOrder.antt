-- The order of core faults: by rule, then core, then index.
use Rattle.std.specs.Prelude.{ℕ}
use Rattle.std.specs.declared.cmp.Ordering.{Ordering}
use Rattle.std.specs.Ordering.{nat_cmp, on, then_cmp}
use Rattle.core_check.specs.declared.fault.CoreRule.{CoreRule}
use Rattle.core_check.specs.declared.fault.CoreRule.TheVariants.{CoreOrder, Program}
use Rattle.core_check.specs.FaultParts.{CoreFaultParts}

-- the graver rule has the lower number
abbrev pub rule_number : CoreRule → ℕ
rule_number CoreOrder = 0
rule_number Program = 1

abbrev pub core_fault_cmp : CoreFaultParts → CoreFaultParts → Ordering
core_fault_cmp =
    then_cmp (on (λ f. rule_number f.rule) nat_cmp)
    (then_cmp (on (λ f. f.id.core) nat_cmp) (on (λ f. f.id.index) nat_cmp))
