-- The logs so far.
use Rattle.std.proofs.Common.{◌≡◌, ◌≤◌, take, vec_len}
use Rattle.std.specs.List.{All}
use Rattle.mem_op.specs.Limits.{operation_limit}
use Rattle.log_record.specs.Entries.{record_lists}
use Rattle.log_file.proofs.log_set.LogSet.logs.Given as goal

abbrev pub invariant-loop-number : goal.invariant-loop-number
invariant-loop-number l = (record_lists l.logs.items ≡ take l.number l.self) × All (λ log. vec_len log ≤ operation_limit) l.logs.items
