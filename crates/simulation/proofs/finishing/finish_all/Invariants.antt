-- The cores so far are finished.
use Rattle.simulation.specs.Finishing.{FinishesFirst}
use Rattle.simulation.proofs.finishing.finish_all.Given as goal

abbrev pub invariant-loop-number : goal.invariant-loop-number
invariant-loop-number l = FinishesFirst l.initial.machine l.number l.machine
