-- The last one so far.
use Rattle.std.proofs.Common.{◌≡◌, take}
use Rattle.std.specs.Prelude.{find, reverse}
use Rattle.address_check.specs.AddressFaults.{is_earlier_store}
use Rattle.explain.proofs.times.right_store.Given as goal

abbrev pub invariant-loop-store : goal.invariant-loop-store
invariant-loop-store l = l.last ≡ find (is_earlier_store l.entry) (reverse (take l.store-index l.group))
