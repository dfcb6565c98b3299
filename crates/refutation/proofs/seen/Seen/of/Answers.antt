use Rattle.std.proofs.Common.{◌∙◌, arith}
use Rattle.std.proofs.lemmas.List.{take_all}
use Rattle.refutation.proofs.SeenStates.{among-more, all-among}
use Rattle.refutation.proofs.seen.Seen.of.Goals as goal

pub loop-state-preserved : goal.loop-state-preserved
loop-state-preserved c =
    among-more c.loop-state.keys c.insert.new.self _ c.args.states.now c.loop-state.state-index c.state-item.result c.in_ok-insert.ensures.keys (omega arith) c.state-item.is
    (c.in_ok-next.ensures.items ∙ c.next.ensures) (c.in_ok-words.ensures.items ∙ c.words.ensures) c.loop-state.invariant

pub returns : goal.returns
returns c = all-among c.loop-state.keys c.args.states.now (λ next words. rw (take_all c.loop-state.state-index c.args.states.now (omega arith)) at (c.loop-state.invariant next words))
