use Rattle.std.proofs.Common.{ℕ, List, subst, sym}
use Rattle.std.specs.Prelude.{IsTrue}
use Rattle.std.specs.Str.Iter.{HasSubslice}
use Rattle.commands.specs.OtherOrders.{another_words}
use Rattle.commands.proofs.explain_files.text_of.Goals as goal

pub returns-clause-another : goal.returns-clause-another
returns-clause-another c = λ has.
    let there : IsTrue c.has_words.result = c.has_words.ensures (subst (λ (bytes : List ℕ). HasSubslice bytes another_words) (sym c.as_str-3.ensures.value) has) in
    let no = c.if-has_words.false in
    absurd cc
