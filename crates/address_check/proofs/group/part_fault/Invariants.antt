-- The last store and the least fault so far.
use Rattle.std.proofs.Common.{◌≡◌, option_copied, take}
use Rattle.address_check.specs.LastStores.{last_store}
use Rattle.address_check.proofs.StorePass.{least_among}
use Rattle.address_check.proofs.group.part_fault.Given as goal

abbrev pub invariant-loop-entry : goal.invariant-loop-entry
invariant-loop-entry l =
    (option_copied l.last ≡ last_store (take l.entry-index l.part)) × (l.least ≡ least_among l.part (take l.entry-index l.part))
