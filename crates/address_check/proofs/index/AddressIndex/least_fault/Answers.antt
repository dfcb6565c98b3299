-- The least fault in all spans is that of all records.
use Rattle.address_check.proofs.ByAddress.{least_by_spans}
use Rattle.address_check.proofs.index.AddressIndex.least_fault.Goals as goal

pub returns : goal.returns
returns g c = rw (c.deref.ensures.value, least_by_spans c.args.self.now c.in_ok-spans.spans.items c.in_ok-spans.ensures) at c.fault_by_workers.ensures
