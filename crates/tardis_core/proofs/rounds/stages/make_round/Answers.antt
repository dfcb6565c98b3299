use Rattle.std.proofs.Common.{subst}
use Rattle.std.proofs.lemmas.Result.{err_from_is_err_and}
use Rattle.core_machine.specs.Parts.{world}
use Rattle.tardis_core.specs.Rounds.{IsPart, ToTurn, ToServe, ToTake, ToRecall, Over, stage_of}
use Rattle.tardis_core.specs.declared.rounds.stages.Told.{Told}
use Rattle.tardis_core.proofs.Stages.{then_part, then_stopped, over_when_empty, over_unless_busy, part_same, then_same}
use Rattle.tardis_core.proofs.rounds.stages.make_round.Goals as goal
use Rattle.tardis_core.proofs.rounds.stages.make_round.Goals.{in-Busy+in_ok-offer, in_default}

pub returns-then-branch : goal.returns-then-branch
returns-then-branch c =
    let core = c.args.core in
    let was = c.args.machine.now in
    let end = c.turn.new.machine in
    let did = c.in_ok-turn.ensures in
    let performed = rw c.if-branch.true at did.1 in
    (then_part core ToTurn ToServe Over was end end did.0 (over_when_empty core end performed.hand), performed)

pub returns-in_err-serve : goal.returns-in_err-serve
returns-in_err-serve c =
    let p = err_from_is_err_and c.from_residual-in_err-serve.result c.from_residual-in_err-serve.ensures.1 in
    let did = c.in_ok-turn.ensures in
    rw (p.1, p.2)
    (then_stopped c.args.core ToTurn ToServe c.args.machine.now c.turn.new.machine c.serve.new.machine c.in_err-serve.field-0.0 did.0 c.in_err-serve.ensures)

pub returns-in_err-recall : goal.returns-in_err-recall
returns-in_err-recall c =
    let core = c.args.core in
    let p = err_from_is_err_and c.from_residual-in_err-recall.result c.from_residual-in_err-recall.ensures.1 in
    let did = c.in_ok-turn.ensures in
    rw (p.1, p.2)
    (then_stopped core ToTurn ToTake c.args.machine.now c.serve.new.machine c.take.new.machine c.in_err-recall.field-0.0
    (then_part core ToTurn ToServe ToTake c.args.machine.now c.turn.new.machine c.serve.new.machine did.0 c.in_ok-serve.ensures) c.in_err-recall.ensures)

pub returns-in_err-offer : goal.returns-in_err-offer
returns-in_err-offer c =
    let core = c.args.core in
    let was = c.args.machine.now in
    let turned = c.turn.new.machine in
    let served = c.serve.new.machine in
    let taken = c.take.new.machine in
    let end = c.offer.new.machine in
    let fault = c.in_err-offer.field-0.0 in
    let p = err_from_is_err_and c.from_residual-in_err-offer.result c.from_residual-in_err-offer.ensures.1 in
    let did = c.in_ok-turn.ensures in
    let recall = c.in-Busy.recall in
    let busy = subst (λ (t : Told). IsPart core ToTake served taken (stage_of t)) c.in-Busy.is c.in_ok-recall.ensures in
    rw (p.1, p.2)
    (then_stopped core ToTurn ToServe was turned end fault did.0
    (then_stopped core ToServe ToTake turned served end fault c.in_ok-serve.ensures
    (then_stopped core ToTake (ToRecall recall) served taken end fault busy (c.in_err-offer.ensures core))))

pub returns : goal.returns
returns c =
    let core = c.args.core in
    let was = c.args.machine.now in
    let turned = c.turn.new.machine in
    let served = c.serve.new.machine in
    let taken = c.take.new.machine in
    let did = c.in_ok-turn.ensures in
    let turn_same = rw c.if-branch.false at did.1 in
    let serves = c.in_ok-serve.ensures in
    elim c.match-branch-4.branch [
      | in-Busy+in_ok-offer w ↦
          let busy = subst (λ (t : Told). IsPart core ToTake served taken (stage_of t)) w.in-Busy.is c.in_ok-recall.ensures in
          let later = then_part core ToServe ToTake Over turned served w.offer.new.machine serves
          (then_part core ToTake (ToRecall w.in-Busy.recall) Over served taken w.offer.new.machine busy (w.in_ok-offer.ensures core)) in
          rw w.machine-is (
            then_part core ToTurn ToServe Over was turned w.offer.new.machine did.0 later,
            then_same core (world was) (world turned) (world w.offer.new.machine) turn_same (part_same core turned w.offer.new.machine later),
          )
      | in_default w ↦
          let over = over_unless_busy core served taken c.in_ok-recall.field-0 w.in_default.not-Busy c.in_ok-recall.ensures in
          let later = then_part core ToServe ToTake Over turned served taken serves over in
          rw w.machine-is (
            then_part core ToTurn ToServe Over was turned taken did.0 later,
            then_same core (world was) (world turned) (world taken) turn_same (part_same core turned taken later),
          )
    ]
