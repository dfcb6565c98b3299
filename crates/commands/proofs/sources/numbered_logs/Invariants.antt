-- The operations so far have numbers.
use Rattle.std.proofs.Common.{◌≡◌, take}
use Rattle.flat_replay.specs.Accesses.{operation_lists}
use Rattle.log_record.specs.Entries.{record_lists}
use Rattle.commands.specs.Sources.{numbered_from}
use Rattle.commands.proofs.sources.numbered_logs.Given as goal

abbrev pub invariant-loop-c : goal.invariant-loop-c
invariant-loop-c l = operation_lists l.made.items ≡ numbered_from l.worded 0 (record_lists (take l.c l.logs))
