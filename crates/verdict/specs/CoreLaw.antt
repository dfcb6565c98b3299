-- The law of the core check, which an `impl` cites.
use Rattle.std.specs.Prelude.{◌≡◌, ℕ, List, ◌++◌}
use Rattle.std.proofs.Common.{subst, ◌∙◌, ap}
use Rattle.std.proofs.lemmas.List.Concat.{flat_map-append}
use Rattle.std.specs.List.{flat_map}
use Rattle.std.specs.declared.cmp.Ordering.{Ordering}
use Rattle.line_stamps.specs.Least.{lesser, least_of}
use Rattle.line_stamps.proofs.Joined.{least_of-append}
use Rattle.core_check.specs.declared.fault.RuleFault.{RuleFault}
use Rattle.core_check.specs.contracts.fault.RuleFaultOrd.TheImpl.{ghosts}
use Rattle.core_check.specs.FaultOrder.{core_fault_cmp}
use Rattle.core_check.proofs.FaultFacts.{core_fault_total, derived_cmp}
use Rattle.verdict.specs.CoreFaultsOf.{faults_of_core, least_of_cores}

-- the least fault of two joined lists of cores is the lesser of their least faults
pub least_of_cores-joined : (faults : List RuleFault) (xs ys : List ℕ) → least_of_cores faults (xs ++ ys) ≡ lesser ghosts.cmp (least_of_cores faults xs) (least_of_cores faults ys)
least_of_cores-joined faults xs ys =
    subst (λ (R : RuleFault → RuleFault → Ordering). least_of_cores faults (xs ++ ys) ≡ lesser R (least_of_cores faults xs) (least_of_cores faults ys)) derived_cmp
    (ap (λ fs. least_of core_fault_cmp fs) (flat_map-append (faults_of_core faults) xs ys)
    ∙ least_of-append core_fault_cmp core_fault_total (flat_map (faults_of_core faults) xs) (flat_map (faults_of_core faults) ys))
