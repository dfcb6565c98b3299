-- Before each operation the core rests, and the records that are left lead to the same state.
use Rattle.std.proofs.Common.{◌≡◌, Some, drop, map}
use Rattle.core_program.specs.Running.{IsAtRest, run_from, state_after}
use Rattle.core_program.specs.State.{State}
use Rattle.log_record.specs.Entries.{operation_of}
use Rattle.explain.specs.inner.CoreLog.{records_of}
use Rattle.explain.proofs.departure.state_after.Given as goal

abbrev pub invariant-loop-item : goal.invariant-loop-item
invariant-loop-item l = record {
  rests : IsAtRest l.program l.state;
  leads : (state : State) → state_after l.program (map operation_of (records_of l.log)) ≡ Some state → run_from l.program l.state (map operation_of (records_of (drop l.item-index l.log))) ≡ Some state;
}
