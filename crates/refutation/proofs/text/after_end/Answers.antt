use Rattle.std.proofs.Common.{rules, ◌≡◌, ℕ, List, Option, Some, ap}
use Rattle.decimal_text.proofs.Reading.{some_is}
use Rattle.refutation.proofs.Lines.{end_front}
use Rattle.refutation.proofs.text.after_end.Goals as goal

pub returns-else-eq-clause-none : goal.returns-else-eq-clause-none
returns-else-eq-clause-none c = λ t more end.
    let same = end_front c.args.rest.now c.in_ok-after_text.field-0.now more c.args.count (Some (c.in_ok-number.number, c.in_ok-number.more.now)) c.in_ok-after_text.ensures.found (search rules) (search rules) end in
    let number : c.in_ok-number.number ≡ Some c.args.count = ap (λ (x : Option ℕ × List ℕ). x.0) (some_is (c.in_ok-number.number, c.in_ok-number.more.now) (Some c.args.count, more) same) in
    search rules
