-- The commands so far lead to the machine.
use Rattle.std.proofs.Common.{take}
use Rattle.simulation.specs.Commands.{Follows}
use Rattle.simulation.proofs.commands.follow.Given as goal

abbrev pub invariant-loop-command : goal.invariant-loop-command
invariant-loop-command l = Follows l.initial.machine (take l.command-index l.commands) l.machine
