-- The draws so far lead to the machine, and the list has its cores that haven't ended.
use Rattle.std.proofs.Common.{◌≡◌, length}
use Rattle.core_machine.specs.Parts.{world}
use Rattle.simulation.specs.Drawing.{Leads, cores_left, draws_of}
use Rattle.simulation.proofs.Draws.{patience}
use Rattle.simulation.proofs.drawing.draw_out.Given as goal

abbrev pub invariant-loop-generator : goal.invariant-loop-generator
invariant-loop-generator l = record {
  leads : Leads (draws_of l.seed l.fn.stress) l.initial.machine (record { generator = l.generator; stress = l.between; waits = l.waits }) l.machine;
  left : l.left.items ≡ cores_left (world l.machine);
  long : length l.waits ≡ 64;
}

abbrev pub decreases-loop-generator : goal.decreases-loop-generator
decreases-loop-generator l = patience l.machine l.waits
