use Rattle.core_unit.specs.Parts.{SameUnit}
use Rattle.machine.proofs.core_thread.perform.Given as goal

abbrev pub invariant-loop-turn : goal.invariant-loop-turn
invariant-loop-turn g l = SameUnit l.fn.unit l.unit
