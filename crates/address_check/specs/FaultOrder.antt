-- The order of address faults: by key, and then by rule, SOURCE first.
use Rattle.std.specs.Prelude.{ℕ}
use Rattle.std.specs.declared.cmp.Ordering.{Ordering}
use Rattle.std.specs.Ordering.{nat_cmp, on, then_cmp}
use Rattle.line_stamps.specs.KeyOrder.{key_cmp}
use Rattle.address_check.specs.declared.fault.AddressRule.{AddressRule}
use Rattle.address_check.specs.declared.fault.AddressRule.TheVariants.{Source, Value}
use Rattle.address_check.specs.FaultParts.{FaultParts}

abbrev pub rule_number : AddressRule → ℕ
rule_number Source = 0
rule_number Value = 1

abbrev pub fault_cmp : FaultParts → FaultParts → Ordering
fault_cmp = then_cmp (on (λ f. f.key) key_cmp) (on (λ f. rule_number f.rule) nat_cmp)
