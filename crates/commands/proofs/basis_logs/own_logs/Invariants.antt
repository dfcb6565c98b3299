-- Those of the cores so far.
use Rattle.std.proofs.Common.{◌≡◌}
use Rattle.std.specs.Prelude.{map}
use Rattle.std.specs.List.{range_with_len}
use Rattle.log_record.specs.Entries.{record_lists}
use Rattle.commands.specs.inner.ReadLogs.{own_log}
use Rattle.commands.proofs.basis_logs.own_logs.Given as goal

abbrev pub invariant-loop-core : goal.invariant-loop-core
invariant-loop-core l = record_lists l.logs.items ≡ map (own_log l.entries) (range_with_len 0 l.core)
