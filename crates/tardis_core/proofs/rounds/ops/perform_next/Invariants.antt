-- The rounds so far; none of them performed an operation.
use Rattle.core_machine.specs.Parts.{world}
use Rattle.tardis_core.specs.Rounds.{Rounds}
use Rattle.tardis_core.specs.Hands.{SameWork}
use Rattle.tardis_core.proofs.rounds.ops.perform_next.Given as goal

abbrev pub invariant-loop : goal.invariant-loop
invariant-loop l = record {
  rounds : Rounds l.core l.initial.machine l.counter l.machine;
  same : SameWork l.core (world l.initial.machine) (world l.machine);
}
