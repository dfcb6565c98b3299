use Rattle.std.proofs.Common.{◌≡◌, ap, ◌∙◌, arith}
use Rattle.core_machine.specs.Parts.{world}
use Rattle.simulation.specs.Drawing.{left_below}
use Rattle.simulation.proofs.Drawn.{all_left}
use Rattle.simulation.proofs.drawing.list_cores_left.Goals as goal

pub returns : goal.returns
returns c =
    let last : c.loop-number.number ≡ 64 = omega (arith, c.loop-number-test.false, c.loop-number.auto.number-end) in
    c.loop-number.invariant ∙ ap (left_below (world c.args.machine.now)) last ∙ all_left (world c.args.machine.now)
