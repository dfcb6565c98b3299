use Rattle.std.proofs.Common.{rules, ◌≢◌, [], sym}
use Rattle.refutation.proofs.Parts.{ranges_are_words}
use Rattle.refutation.proofs.line.read_ranges.Goals as goal
use Rattle.text_lines.proofs.SpacedWords.{all_words, one_more_word}

pub loop-found-preserved : goal.loop-found-preserved
loop-found-preserved c =
    let more = one_more_word ranges_are_words c.args.bytes.now c.loop-found.rest.now c.in-Some.behind.now c.loop-found.ranges.items c.in-Some.found c.loop-found.invariant (sym c.in-Some.ensures) in
    rw c.in_ok-push.ensures.items more

pub returns-else-is_empty : goal.returns-else-is_empty
returns-else-is_empty c = λ ys each is.
    let some : c.loop-found.rest.now ≢ [] = search rules in
    some (all_words ranges_are_words c.args.bytes.now c.loop-found.rest.now c.loop-found.ranges.items ys c.loop-found.invariant (search rules) each is).0
