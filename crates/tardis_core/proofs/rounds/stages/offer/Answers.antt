use Rattle.std.proofs.Common.{refl}
use Rattle.std.proofs.lemmas.Result.{err_from_is_err_and}
use Rattle.line_stamps.specs.declared.message.Recall.{Recall}
use Rattle.tardis_core.specs.Rounds.{ToRecall, OwnerToServe, OwnerToTake, Over}
use Rattle.core_machine.specs.declared.event.Event.TheVariants as event
use Rattle.tardis_core.proofs.Stages.{part_makes, stopped_at, then_part, then_stopped, recalled, not_recalled}
use Rattle.tardis_core.proofs.rounds.stages.offer.Goals as goal

pub returns-in_err-step_told : goal.returns-in_err-step_told
returns-in_err-step_told c =
    let x : Recall = record { rts = c.recall.inside.rts; addr = c.recall.inside.addr; owner = c.recall.inside.owner; kind = c.recall.inside.kind } in
    let p = err_from_is_err_and c.from_residual.result c.from_residual.ensures.1 in
    rw (p.1, p.2, ← c.recall.view_is)
    (λ i. stopped_at i (ToRecall x) c.args.machine.now c.step_told.new.machine (event.Recall x.owner x) x.owner c.in_err-step_told.field-0.0 refl refl c.in_err-step_told.ensures)

pub returns-in_err-step_told-in-Gave : goal.returns-in_err-step_told-in-Gave
returns-in_err-step_told-in-Gave c =
    let x : Recall = record { rts = c.recall.inside.rts; addr = c.recall.inside.addr; owner = c.recall.inside.owner; kind = c.recall.inside.kind } in
    let was = c.args.machine.now in
    let gave = c.step_told.new.machine in
    let end = c.step_told-in-Gave.new.machine in
    let fault = c.in_err-step_told-in-Gave.field-0.0 in
    let p = err_from_is_err_and c.from_residual-in_err-step_told-in-Gave.result c.from_residual-in_err-step_told-in-Gave.ensures.1 in
    rw (p.1, p.2, ← c.recall.view_is)
    (λ i. then_stopped i (ToRecall x) (OwnerToServe x.owner) was gave end fault (recalled i x was gave (rw c.in-Gave.is at c.in_ok-step_told.ensures))
    (stopped_at i (OwnerToServe x.owner) gave end (event.Serve x.owner) x.owner fault refl refl c.in_err-step_told-in-Gave.ensures))

pub returns-in_err-step_told-in-Gave-2 : goal.returns-in_err-step_told-in-Gave-2
returns-in_err-step_told-in-Gave-2 c =
    let x : Recall = record { rts = c.recall.inside.rts; addr = c.recall.inside.addr; owner = c.recall.inside.owner; kind = c.recall.inside.kind } in
    let was = c.args.machine.now in
    let gave = c.step_told.new.machine in
    let served = c.step_told-in-Gave.new.machine in
    let end = c.step_told-in-Gave-2.new.machine in
    let fault = c.in_err-step_told-in-Gave-2.field-0.0 in
    let p = err_from_is_err_and c.from_residual-in_err-step_told-in-Gave-2.result c.from_residual-in_err-step_told-in-Gave-2.ensures.1 in
    rw (p.1, p.2, ← c.recall.view_is)
    (λ i. then_stopped i (ToRecall x) (OwnerToServe x.owner) was gave end fault (recalled i x was gave (rw c.in-Gave.is at c.in_ok-step_told.ensures))
    (then_stopped i (OwnerToServe x.owner) (OwnerToTake x.owner) gave served end fault
    (part_makes i (OwnerToServe x.owner) gave (event.Serve x.owner) c.in_ok-step_told-in-Gave.field-0 served refl c.in_ok-step_told-in-Gave.ensures)
    (stopped_at i (OwnerToTake x.owner) served end (event.Take x.owner) x.owner fault refl refl c.in_err-step_told-in-Gave-2.ensures)))

pub returns-in_ok-step_told-in-Gave-2 : goal.returns-in_ok-step_told-in-Gave-2
returns-in_ok-step_told-in-Gave-2 c =
    let x : Recall = record { rts = c.recall.inside.rts; addr = c.recall.inside.addr; owner = c.recall.inside.owner; kind = c.recall.inside.kind } in
    let was = c.args.machine.now in
    let gave = c.step_told.new.machine in
    let served = c.step_told-in-Gave.new.machine in
    let end = c.step_told-in-Gave-2.new.machine in
    rw (← c.recall.view_is)
    (λ i. then_part i (ToRecall x) (OwnerToServe x.owner) Over was gave end (recalled i x was gave (rw c.in-Gave.is at c.in_ok-step_told.ensures))
    (then_part i (OwnerToServe x.owner) (OwnerToTake x.owner) Over gave served end
    (part_makes i (OwnerToServe x.owner) gave (event.Serve x.owner) c.in_ok-step_told-in-Gave.field-0 served refl c.in_ok-step_told-in-Gave.ensures)
    (part_makes i (OwnerToTake x.owner) served (event.Take x.owner) c.in_ok-step_told-in-Gave-2.field-0 end refl c.in_ok-step_told-in-Gave-2.ensures)))

pub returns-in_default : goal.returns-in_default
returns-in_default c =
    let x : Recall = record { rts = c.recall.inside.rts; addr = c.recall.inside.addr; owner = c.recall.inside.owner; kind = c.recall.inside.kind } in
    rw (← c.recall.view_is)
    (λ i. not_recalled i x c.args.machine.now c.step_told.new.machine c.in_ok-step_told.field-0 c.in_default.not-Gave c.in_ok-step_told.ensures)
