-- The sources so far have the texts so far.
use Rattle.std.proofs.Common.{◌≡◌, map, take}
use Rattle.log_file.specs.InMemory.{rest_of}
use Rattle.litmus.specs.inner.Ending.{word_lists}
use Rattle.litmus.proofs.judging.sources_of.Given as goal

abbrev pub invariant-loop-text : goal.invariant-loop-text
invariant-loop-text l = map rest_of l.sources.items ≡ word_lists (take l.text-index l.texts)
