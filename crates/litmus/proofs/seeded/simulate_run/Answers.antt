use Rattle.std.proofs.Common.{rules, ◌≡◌, ◌∙◌, Err, refl, ap}
use Rattle.core_machine.specs.Opening.{opening_parts}
use Rattle.litmus.specs.Runs.{not_ended}
use Rattle.litmus.specs.declared.run_cause.RunCause.TheVariants.{Simulation}
use Rattle.litmus.proofs.seeded.simulate_run.Goals as goal

pub returns-in_err-simulate : goal.returns-in_err-simulate
returns-in_err-simulate c =
    let is : c.from_residual.result ≡ Err (Simulation c.in_err-simulate.field-0.0) = search rules in
    let start = c.in-Ok.ensures.parts ∙ ap (λ programs. opening_parts programs c.args.config.now) c.programs.ensures.programs in
    rw is (not_ended (c.simulate.new.machine, c.in_err-simulate.field-0.0, rw start at c.in_err-simulate.ensures.simulated, refl))

pub returns : goal.returns
returns c =
    let start = c.in-Ok.ensures.parts ∙ ap (λ programs. opening_parts programs c.args.config.now) c.programs.ensures.programs in
    rw start at c.in_ok-simulate.ensures.events
