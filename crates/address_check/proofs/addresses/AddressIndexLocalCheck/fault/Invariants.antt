-- The least fault in the spans so far.
use Rattle.std.proofs.Common.{◌≡◌, take}
use Rattle.address_check.specs.BySpan.{least_fault_in}
use Rattle.address_check.proofs.addresses.AddressIndexLocalCheck.fault.Given as goal

abbrev pub invariant-loop-span : goal.invariant-loop-span
invariant-loop-span l = l.least ≡ least_fault_in l.self (take l.span-index l.spans)
