-- The law of the address check, which an `impl` cites.
use Rattle.std.proofs.Common.{◌≡◌, List, ◌++◌, Ordering, flat_map, refl, subst, ◌∙◌, ap}
use Rattle.std.proofs.lemmas.List.Concat.{flat_map-append}
use Rattle.line_stamps.specs.KeyParts.{KeyParts}
use Rattle.line_stamps.specs.Least.{lesser, least_of}
use Rattle.std.specs.Cmp.{IsTotalOrder}
use Rattle.std.proofs.lemmas.Cmp.{nat_cmp_total, on_total, then_total}
use Rattle.line_stamps.proofs.Keys.{key_total}
use Rattle.line_stamps.proofs.Joined.{least_of-append}
use Rattle.log_record.specs.declared.record.Entry.{Entry}
use Rattle.address_check.specs.declared.fault.AddressRule.{AddressRule}
use Rattle.address_check.specs.declared.fault.AddressRule.TheVariants.{Source, Value}
use Rattle.address_check.specs.declared.fault.AddressFault.{AddressFault}
use Rattle.address_check.specs.contracts.fault.AddressFaultOrd.TheImpl.{ghosts}
use Rattle.address_check.specs.FaultOrder.{rule_number, fault_cmp}
use Rattle.address_check.specs.declared.span.AddrSpan.{AddrSpan}
use Rattle.address_check.specs.BySpan.{faults_in, least_fault_in}

pub fault_total : IsTotalOrder fault_cmp
fault_total = then_total (on_total (λ f. f.key) key_total) (on_total (λ f. rule_number f.rule) nat_cmp_total)

abbrev at : KeyParts → AddressRule → AddressFault
at k r = record { key = k; rule = r }

by_rules : (k l : KeyParts) (r s : AddressRule) → fault_cmp (at k r) (at l s) ≡ ghosts.cmp (at k r) (at l s)
by_rules k l Source Source = refl
by_rules k l Source Value = refl
by_rules k l Value Source = refl
by_rules k l Value Value = refl

-- the derived order is that of the definitions
pub derived_cmp : fault_cmp ≡ ghosts.cmp
derived_cmp = λ i a b. by_rules a.key b.key a.rule b.rule i

-- the least fault in two joined lists of spans is the lesser of their least faults
pub least_fault_in-joined : (es : List Entry) (xs ys : List AddrSpan) → least_fault_in es (xs ++ ys) ≡ lesser ghosts.cmp (least_fault_in es xs) (least_fault_in es ys)
least_fault_in-joined es xs ys =
    subst (λ (R : AddressFault → AddressFault → Ordering). least_fault_in es (xs ++ ys) ≡ lesser R (least_fault_in es xs) (least_fault_in es ys)) derived_cmp
    (ap (least_of fault_cmp) (flat_map-append (faults_in es) xs ys) ∙ least_of-append fault_cmp fault_total (flat_map (faults_in es) xs) (flat_map (faults_in es) ys))
