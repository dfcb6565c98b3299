use Rattle.std.proofs.Common.{◌≡◌, ◌≢◌, ◌≤◌, ◌<◌, true, arith, ◌∙◌}
use Rattle.std.specs.Prelude.{slice_index}
use Rattle.mem_op.specs.Consistency.{is_store_to, word_left}
use Rattle.refutation.proofs.Firsts.{core_at, cores-all, all-cores}
use Rattle.refutation.proofs.Settled.{at-core}
use Rattle.refutation.proofs.dead.none_stores.Goals as goal

pub returns-then-not-none_stores_of : goal.returns-then-not-none_stores_of
returns-then-not-none_stores_of c = λ none.
    let found = core_at c.cores-operations-items.result.now c.loop-core.core (c.cores-operations-items.ensures.value ∙ c.trace.ensures) c.operations-item.is (omega arith) in
    c.if-not-none_stores_of.ensures (rw (c.deref.ensures.value, c.number_of-from.ensures, c.number_of-to.ensures)
    (λ index z at. none (record { core = c.loop-core.core; index = index }) z (at-core c.args.trace.now c.loop-core.core index c.operations-item.result.items found ∙ at)))

pub returns : goal.returns
returns c =
    all-cores (λ id z. slice_index c.args.next.now id.core ≤ id.index → id.index < slice_index c.args.limits.now id.core → is_store_to c.args.addr z ≡ true → word_left z ≢ c.args.word)
    c.args.trace.now c.loop-core.core (cores-all c.cores-operations-items.result.now c.loop-core.core (c.cores-operations-items.ensures.value ∙ c.trace.ensures) (omega arith)) c.loop-core.invariant
