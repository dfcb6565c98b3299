use Rattle.std.proofs.Common.{rules, arith, length, ◌≤◌, ◌≡◌, Some}
use Rattle.std.proofs.lemmas.Option.{gets, slice_get_within}
use Rattle.std.specs.Prelude.{slice_get}
use Rattle.refutation.specs.States.{Has}
use Rattle.refutation.specs.inner.Seen.{IsAmong}
use Rattle.refutation.proofs.Firsts.{first_more}
use Rattle.refutation.proofs.NextOnes.{right-in-other}
use Rattle.refutation.proofs.closed.is_closed.Goals as goal

pub returns-then-not-branch-2 : goal.returns-then-not-branch-2
returns-then-not-branch-2 c = (
  λ t. absurd cc,
  λ closed. absurd (
      let wrong = rw (c.if-not-branch-2.true, c.in_ok-indexed.ensures) at c.in_ok-is_right.ensures in
      let here : slice_get c.args.set.now c.loop-state.state-index ≡ Some c.state-item.result = grind (arith, gets) in
      let same = rw c.as_slice.ensures at c.in_ok-seen.ensures in
      wrong (right-in-other c.args.trace.now c.args.facts.now c.args.addresses.now (Has c.args.set.now) (IsAmong c.in_ok-seen.seen.keys) (λ next words. (same next words).1)
      c.state-item.result (closed.each c.loop-state.state-index c.state-item.result here))),
)

pub loop-state-preserved : goal.loop-state-preserved
loop-state-preserved c =
    let here : slice_get c.args.set.now c.loop-state.state-index ≡ Some c.state-item.result = grind (arith, gets) in
    search (rules, first_more, right-in-other)

pub returns : goal.returns
returns c =
    let all : length c.args.set.now ≤ c.loop-state.state-index = rw (← c.as_slice-state-items.ensures) (omega arith) in
    search (rules, slice_get_within)
