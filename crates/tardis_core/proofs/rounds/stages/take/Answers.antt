use Rattle.std.proofs.Common.{refl, sym, ap, subst, ◌∙◌}
use Rattle.std.proofs.lemmas.Result.{err_from_is_err_and}
use Rattle.core_machine.specs.Parts.{world}
use Rattle.tardis_core.specs.Rounds.{ToTake, IsPart, take_due, stage_of}
use Rattle.tardis_core.specs.Hands.{hand_at}
use Rattle.core_machine.specs.declared.event.Event.TheVariants as event
use Rattle.tardis_core.specs.declared.rounds.stages.Told.{Told}
use Rattle.tardis_core.proofs.Stages.{part_passes, part_makes, stopped_at, no_take}
use Rattle.tardis_core.proofs.rounds.stages.take.Goals as goal

pub returns-in_err-told-in-Answered : goal.returns-in_err-told-in-Answered
returns-in_err-told-in-Answered c =
    let p = err_from_is_err_and c.from_residual.result c.from_residual.ensures.1 in
    rw (p.1, p.2)
    (stopped_at c.args.core ToTake c.args.machine.now c.step_told.new.machine (event.Take c.args.core) c.args.core c.in_err-told-in-Answered.field-0.0
    (ap (take_due c.args.core) (sym c.hand_at.ensures ∙ c.in-Answered.is)) refl c.in_err-told-in-Answered.ensures)

pub returns-in_ok-told-in-Answered : goal.returns-in_ok-told-in-Answered
returns-in_ok-told-in-Answered c =
    let made = c.in_ok-told-in-Answered.ensures in
    subst (λ (t : Told). IsPart c.args.core ToTake c.args.machine.now c.step_told.new.machine (stage_of t)) (sym made.tells)
    (part_makes c.args.core ToTake c.args.machine.now (event.Take c.args.core) c.in_ok-told-in-Answered.told c.step_told.new.machine
    (ap (take_due c.args.core) (sym c.hand_at.ensures ∙ c.in-Answered.is)) made)

pub returns-in_default : goal.returns-in_default
returns-in_default c =
    part_passes c.args.core ToTake c.args.machine.now
    (no_take c.args.core (hand_at (world c.args.machine.now) c.args.core) (λ is. c.in_default.not-Answered (c.hand_at.ensures ∙ is)))
