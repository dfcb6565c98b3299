use Rattle.std.proofs.Common.{◌≡◌, take}
use Rattle.log_record.specs.Entries.{record_lists, operations_of}
use Rattle.flat_replay.specs.Accesses.{operation_lists}
use Rattle.verdict.proofs.accesses.accesses_of.Given as goal

abbrev pub invariant-loop-log : goal.invariant-loop-log
invariant-loop-log l = operation_lists l.cores.items ≡ operations_of (record_lists (take l.log-index l.logs))
