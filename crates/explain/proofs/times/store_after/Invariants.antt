-- No store among those so far.
use Rattle.std.proofs.Common.{◌≡◌, ◌+◌, drop}
use Rattle.std.specs.Prelude.{find}
use Rattle.address_check.specs.LastStores.{is_store_entry}
use Rattle.explain.proofs.times.store_after.Given as goal

abbrev pub invariant-loop-entry : goal.invariant-loop-entry
invariant-loop-entry l = find is_store_entry (drop (l.place + 1 + l.entry-index) l.group) ≡ find is_store_entry (drop (l.place + 1) l.group)
