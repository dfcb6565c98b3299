use Rattle.std.proofs.Common.{rules, ◌≢◌, [], sym}
use Rattle.refutation.proofs.line.read_path.Goals as goal
use Rattle.text_lines.proofs.SpacedWords.{all_words, numbers_are_words, one_more_word}

pub loop-number-preserved : goal.loop-number-preserved
loop-number-preserved c =
    let more = one_more_word numbers_are_words c.args.bytes.now c.loop-number.rest.now c.in-Some.behind.now c.loop-number.facts.items c.in-Some.number c.loop-number.invariant (sym c.in-Some.ensures) in
    rw c.in_ok-push.ensures.items more

pub returns-else-is_empty : goal.returns-else-is_empty
returns-else-is_empty c = λ ys each is.
    let some : c.loop-number.rest.now ≢ [] = search rules in
    some (all_words numbers_are_words c.args.bytes.now c.loop-number.rest.now c.loop-number.facts.items ys c.loop-number.invariant (search rules) each is).0
