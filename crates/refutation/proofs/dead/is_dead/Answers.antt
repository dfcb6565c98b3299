use Rattle.std.proofs.Common.{arith, ◌∙◌}
use Rattle.refutation.proofs.Firsts.{cores-all}
use Rattle.refutation.proofs.NextOnes.{ones-told, StopsAt}
use Rattle.refutation.proofs.dead.is_dead.Goals as goal

pub returns : goal.returns
returns c =
    ones-told c.args.trace.now c.args.limits.now (StopsAt c.args.trace.now c.args.addresses.now c.args.next.now c.args.words.now c.args.limits.now) c.loop-core.is_some c.loop-core.core
    (cores-all c.cores-core-end.result.now c.loop-core.core (c.cores-core-end.ensures.value ∙ c.trace-operations.ensures) (omega arith)) c.loop-core.invariant (λ some each. record { some = some; each = each }) (λ dead. dead.some)
