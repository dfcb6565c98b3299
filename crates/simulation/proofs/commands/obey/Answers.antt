use Rattle.std.proofs.Common.{rules, ◌≡◌, refl, Err}
use Rattle.simulation.specs.declared.fault.SimulationFault.TheVariants.{Core}
use Rattle.simulation.proofs.commands.obey.Goals as goal

pub returns-in_err-op-in-Op : goal.returns-in_err-op-in-Op
returns-in_err-op-in-Op c =
    let is : c.from_residual-in_err-op-in-Op.result ≡ Err (Core c.in_err-op-in-Op.field-0.0) = search rules in
    rw (is, c.in-Op.is) (c.in_err-op-in-Op.field-0.0, refl, c.in_err-op-in-Op.ensures.op)
