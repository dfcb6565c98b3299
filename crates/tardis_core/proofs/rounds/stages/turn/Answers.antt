use Rattle.std.proofs.Common.{refl, sym, ap, subst, ◌∙◌}
use Rattle.std.proofs.lemmas.Result.{err_from_is_err_and}
use Rattle.core_machine.specs.Parts.{world}
use Rattle.tardis_core.specs.Rounds.{ToTurn, turn_due, EventLeadsTelling}
use Rattle.tardis_core.specs.Hands.{hand_at}
use Rattle.core_machine.specs.declared.event.Event.TheVariants as event
use Rattle.tardis_core.specs.declared.rounds.stages.Told.{Told}
use Rattle.tardis_core.proofs.Stages.{part_passes, part_makes, stopped_at, no_turn, turn_performs, turn_performs_not}
use Rattle.tardis_core.proofs.Works.{same_work}
use Rattle.tardis_core.proofs.rounds.stages.turn.Goals as goal
use Rattle.tardis_core.proofs.rounds.stages.turn.Goals.{in-Performed, in_default-matches}

pub returns-in_err-told-in-Empty : goal.returns-in_err-told-in-Empty
returns-in_err-told-in-Empty c =
    let p = err_from_is_err_and c.from_residual.result c.from_residual.ensures.1 in
    rw (p.1, p.2)
    (stopped_at c.args.core ToTurn c.args.machine.now c.step_told.new.machine (event.Turn c.args.core) c.args.core c.in_err-told-in-Empty.field-0.0
    (ap (turn_due c.args.core) (sym c.hand_at.ensures ∙ c.in-Empty.is)) refl c.in_err-told-in-Empty.ensures)

pub returns-after-matches : goal.returns-after-matches
returns-after-matches c =
    let was = c.args.machine.now in
    let new = c.step_told.new.machine in
    let made = c.in_ok-told-in-Empty.ensures in
    let told = c.in_ok-told-in-Empty.told in
    let core = c.args.core in (
      part_makes core ToTurn was (event.Turn core) told new (ap (turn_due core) (sym c.hand_at.ensures ∙ c.in-Empty.is)) made,
      elim c.match-matches.branch [
        | in-Performed w ↦ rw w.matches-is
            (turn_performs core was new (subst (λ (t : Told). EventLeadsTelling was (event.Turn core) t new) w.in-Performed.is made))
        | in_default-matches w ↦ rw w.matches-is (turn_performs_not core was new told made w.in_default-matches.not-Performed)
      ],
    )

pub returns-in_default : goal.returns-in_default
returns-in_default c = (
  part_passes c.args.core ToTurn c.args.machine.now
      (no_turn c.args.core (hand_at (world c.args.machine.now) c.args.core) (λ is. c.in_default.not-Empty (c.hand_at.ensures ∙ is))),
  same_work c.args.core (world c.args.machine.now),
)
