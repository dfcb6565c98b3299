-- The machine after the events so far.
use Rattle.std.proofs.Common.{take}
use Rattle.core_machine.proofs.Reached.{IsRunSoFar}
use Rattle.tardis_core.proofs.running.run.Given as goal

abbrev pub invariant-loop-at : goal.invariant-loop-at
invariant-loop-at l = IsRunSoFar l.programs.programs l.config (take l.at l.events) l.machine
