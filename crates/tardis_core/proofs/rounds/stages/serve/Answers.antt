use Rattle.std.proofs.Common.{refl, sym, ap, ◌∙◌}
use Rattle.std.proofs.lemmas.Result.{err_from_is_err_and}
use Rattle.core_machine.specs.Parts.{world}
use Rattle.tardis_core.specs.Rounds.{ToServe, serve_due}
use Rattle.tardis_core.specs.Hands.{hand_at}
use Rattle.core_machine.specs.declared.event.Event.TheVariants as event
use Rattle.tardis_core.proofs.Stages.{part_passes, part_makes, stopped_at, no_serve}
use Rattle.tardis_core.proofs.rounds.stages.serve.Goals as goal

pub returns-in_err-step_told-in-Asking : goal.returns-in_err-step_told-in-Asking
returns-in_err-step_told-in-Asking c =
    let p = err_from_is_err_and c.from_residual.result c.from_residual.ensures.1 in
    rw (p.1, p.2)
    (stopped_at c.args.core ToServe c.args.machine.now c.step_told.new.machine (event.Serve c.args.core) c.args.core c.in_err-step_told-in-Asking.field-0.0
    (ap (serve_due c.args.core) (sym c.hand_at.ensures ∙ c.in-Asking.is)) refl c.in_err-step_told-in-Asking.ensures)

pub returns-in_ok-step_told-in-Asking : goal.returns-in_ok-step_told-in-Asking
returns-in_ok-step_told-in-Asking c =
    part_makes c.args.core ToServe c.args.machine.now (event.Serve c.args.core) c.in_ok-step_told-in-Asking.field-0 c.step_told.new.machine
    (ap (serve_due c.args.core) (sym c.hand_at.ensures ∙ c.in-Asking.is)) c.in_ok-step_told-in-Asking.ensures

pub returns-in_default : goal.returns-in_default
returns-in_default c =
    part_passes c.args.core ToServe c.args.machine.now
    (no_serve c.args.core (hand_at (world c.args.machine.now) c.args.core) (λ is. c.in_default.not-Asking (c.hand_at.ensures ∙ is)))
