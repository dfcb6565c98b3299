-- No core so far has a fault to report.
use Rattle.audit.specs.Runs.{NoneReportsBelow}
use Rattle.audit.proofs.accepting.first_report.Given as goal

abbrev pub invariant-loop-core : goal.invariant-loop-core
invariant-loop-core l = NoneReportsBelow l.programs.programs l.units l.faults l.core
