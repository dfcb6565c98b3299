use Rattle.std.proofs.Common.{sym}
use Rattle.refutation.proofs.StateTexts.{part-goes-on}
use Rattle.refutation.proofs.state_line.read_part.Goals as goal
use Rattle.text_lines.proofs.SpacedWords.{numbers_are_words, one_more_word}

pub loop-number-preserved : goal.loop-number-preserved
loop-number-preserved c = rw c.in_ok-push.ensures.items (one_more_word numbers_are_words _ _ _ _ _ c.loop-number.invariant (sym c.in-Some-read_spaced.ensures))

pub returns-then-not-ends_word : goal.returns-then-not-ends_word
returns-then-not-ends_word c =
    part-goes-on c.in-Some.ensures.found c.loop-number.invariant (sym c.in_default-read_spaced.ensures) (λ ends. (let a = c.if-not-ends_word.true in let b = c.ends_word.ensures in cc))
