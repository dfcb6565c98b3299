use Rattle.std.proofs.Common.{refl}
use Rattle.refutation.proofs.StateTexts.{part-once, no-words, no-dead}
use Rattle.refutation.proofs.state_line.read_state.Goals as goal

pub returns-in_default-2 : goal.returns-in_default-2
returns-in_default-2 c = no-words (rw c.in-Some.is at c.in_ok-next.ensures) (rw c.in_default-2.is at c.in_ok-words.ensures)

pub returns-in_default-4 : goal.returns-in_default-4
returns-in_default-4 c =
    let dead = rw c.in-Some-3.is at c.in_ok-next-2.ensures in
    let none = rw c.in_default-4.is at c.in_ok-words-2.ensures in
    no-dead (rw c.in_default.is at c.in_ok-next.ensures) (λ n v l rest there. none v there.1 (rw (← (part-once refl dead there.2).1) at there.3))

pub returns-in_default-5 : goal.returns-in_default-5
returns-in_default-5 c =
    let dead = rw c.in-Some-3.is at c.in_ok-next-2.ensures in
    let words = rw c.in-Some-4.is at c.in_ok-words-2.ensures in
    let none = rw c.in_default-5.is at c.in_ok-limits.ensures in
    no-dead (rw c.in_default.is at c.in_ok-next.ensures) (λ n v l rest there.
    let first = part-once refl dead there.2 in
    none l rest (rw (← (part-once first.1 words there.3).1) at there.4))
