-- The records before `i` are those that the program issues, and lead to the state, which rests.
use Rattle.std.proofs.Common.{◌≡◌, Some, map, take}
use Rattle.core_program.specs.Running.{IsAtRest, state_after}
use Rattle.log_record.specs.Entries.{operation_of}
use Rattle.core_check.proofs.conforming.conforms.Given as goal

abbrev pub invariant-loop-i : goal.invariant-loop-i
invariant-loop-i g l = (state_after l.program (take l.i (map operation_of (g.L.Logged.records_of l.log))) ≡ Some l.state) × IsAtRest l.program l.state
