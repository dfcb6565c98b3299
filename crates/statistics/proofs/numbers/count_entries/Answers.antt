use Rattle.std.proofs.Common.{◌≡◌, [], ◌∷◌, ◌++◌, take, ap, sym, ◌∙◌, arith}
use Rattle.std.specs.Prelude.{Some, slice_get}
use Rattle.std.proofs.lemmas.Grind.{common_steps}
use Rattle.std.proofs.lemmas.Option.{gets, get_or_from_slice_get, slice_get_within}
use Rattle.statistics.specs.Numbers.{counted}
use Rattle.statistics.specs.Sights.{no_past, sights_after}
use Rattle.statistics.proofs.Counting.{sights_more}
use Rattle.statistics.proofs.numbers.count_entries.Goals as goal

pub unreachable-requires : goal.unreachable-requires
unreachable-requires c = grind (arith, gets)

pub loop-place-preserved : goal.loop-place-preserved
loop-place-preserved c =
    let es = c.args.transcript.now.entries in
    let entry = c.in-Some.entry in
    let seen = sights_after c.args.period c.args.log.now no_past (take c.loop-place.place es) in
    let at : slice_get es c.loop-place.place ≡ Some entry = sym c.get.ensures ∙ c.in-Some.is in
    let lt = slice_get_within es c.loop-place.place entry at in
    let is = get_or_from_slice_get es c.loop-place.place entry entry at in
    let more = sights_more c.args.period c.args.log.now no_past c.loop-place.past es c.loop-place.place entry lt is c.loop-place.invariant.past in
    record {
      counts = c.count.ensures.counts seen c.loop-place.invariant.counts ∙ ap counted (ap (λ s. seen ++ s ∷ []) c.sight_of.ensures ∙ sym more);
      past = grind (arith, common_steps);
      few = λ place lt. omega (arith, c.count.ensures.few place, c.loop-place.invariant.few place lt);
      done = omega (arith, c.after-past.ensures.steps, c.loop-place.invariant.done);
    }
