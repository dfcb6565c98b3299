-- The operations so far; after each fewer instructions are left.
use Rattle.core_machine.specs.Parts.{world}
use Rattle.tardis_core.specs.Rounds.{Ops}
use Rattle.core_machine.specs.Works.{left_at}
use Rattle.tardis_core.proofs.rounds.ops.finish.Given as goal

abbrev pub invariant-loop-core : goal.invariant-loop-core
invariant-loop-core l = Ops l.core l.initial.machine l.machine

abbrev pub decreases-loop-core : goal.decreases-loop-core
decreases-loop-core l = left_at (world l.machine) l.core
