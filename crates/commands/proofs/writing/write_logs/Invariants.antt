-- The logs of the cores so far, each of at most 1,048,576 operations; no put failed.
use Rattle.std.proofs.Common.{◌≡◌, ◌≤◌, ◌*◌}
use Rattle.mem_op.specs.Limits.{operation_limit}
use Rattle.commands.specs.inner.CoreLogs.{core_log}
use Rattle.commands.specs.Logs.{ArePutFirst}
use Rattle.commands.proofs.writing.write_logs.Given as goal

abbrev pub invariant-loop-number : goal.invariant-loop-number
invariant-loop-number g l = record {
  few : l.count ≤ l.number * operation_limit;
  put : ArePutFirst l.fn.format (g.F.Folder.files l.fn.folder).told (g.F.Folder.files l.folder).told l.out l.cores (core_log l.of) l.number;
  quiet : (g.F.Folder.files l.folder).failed ≡ (g.F.Folder.files l.fn.folder).failed;
}
