-- None of the logs so far has one of the names.
use Rattle.std.proofs.Common.{◌<◌, ℕ}
use Rattle.std.specs.Prelude.{Contains}
use Rattle.command_line.specs.Asking.{texts}
use Rattle.command_line.specs.RunFiles.{log_name}
use Rattle.command_line.proofs.log_names.has_log_name.Given as goal

abbrev pub invariant-loop-core : goal.invariant-loop-core
invariant-loop-core l = (c : ℕ) → c < l.core-counter → ¬ (Contains (texts l.names) (log_name l.out c))
