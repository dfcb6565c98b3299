-- The closure answers the key.
use Rattle.std.proofs.Common.{rules}
use Rattle.std.proofs.lemmas.List.Sorted.{answers_always}
use Rattle.log_record.specs.Entries.{key_of}
use Rattle.explain.proofs.summary.by_key.Goals as goal

pub returns-clause-sorted : goal.returns-clause-sorted
returns-clause-sorted c = c.sort_unstable_by_key.ensures.sorted key_of (answers_always _ _ _ (λ f a r g called. search rules))
