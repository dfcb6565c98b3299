-- Where the logs of cores are.
use Rattle.std.specs.Prelude.{⊤, All, ◌≤◌, ℕ, List, vec_len}
use Rattle.mem_op.specs.Limits.{operation_limit}
use Rattle.log_record.specs.Entries.{record_lists}
use Rattle.log_record.specs.declared.record.Record.{Record}
use Rattle.audit.specs.Runs.{kept_log}
use Rattle.commands.specs.Upgrading.{log_in}
use Rattle.commands.specs.declared.writing.CoreLogs.{CoreLogs}
use Rattle.commands.specs.declared.writing.CoreLogs.TheVariants.{OfUnits, Read}

-- the log of each core
abbrev pub core_log : CoreLogs → ℕ → List Record
core_log (OfUnits us) = kept_log us.now
core_log (Read logs) = log_in (record_lists logs.now)

-- none of the logs is too long for a set
abbrev pub AreShort : CoreLogs → Type 0
AreShort (OfUnits us) = ⊤
AreShort (Read logs) = All (λ log. vec_len log ≤ operation_limit) logs.now
