-- The list has the cores so far that haven't ended.
use Rattle.std.proofs.Common.{◌≡◌}
use Rattle.core_machine.specs.Parts.{world}
use Rattle.simulation.specs.Drawing.{left_below}
use Rattle.simulation.proofs.drawing.list_cores_left.Given as goal

abbrev pub invariant-loop-number : goal.invariant-loop-number
invariant-loop-number l = l.left.items ≡ left_below (world l.machine) l.number
