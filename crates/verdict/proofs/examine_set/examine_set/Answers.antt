-- The entries of a set have no id twice.
use Rattle.address_check.proofs.Sorting.{ids_of_set}
use Rattle.verdict.proofs.examine_set.examine_set.Goals as goal

pub of_entries-index-requires-clause-ids : goal.of_entries-index-requires-clause-ids
of_entries-index-requires-clause-ids g c κs within = rw c.into_entries.ensures.entries (ids_of_set c.args.set)
