-- The records so far have numbers.
use Rattle.std.proofs.Common.{◌≡◌, take}
use Rattle.std.specs.Prelude.{map}
use Rattle.log_record.specs.Entries.{core_entries}
use Rattle.commands.specs.Sources.{numbered}
use Rattle.commands.proofs.sources.numbered_log.Given as goal

abbrev pub invariant-loop-i : goal.invariant-loop-i
invariant-loop-i l = l.made.items ≡ map (numbered l.worded) (core_entries l.core 0 (take l.i l.log))
