use Rattle.std.proofs.Common.{◌∙◌}
use Rattle.refutation.proofs.closed.leads_into.Goals as goal

pub returns : goal.returns
returns c =
    rw (c.deref.ensures.value ∙ c.in_ok-next.ensures, c.next.ensures, c.in_ok-words.ensures, c.words.ensures, c.addr.ensures, c.word_left.ensures) at c.is_in.ensures
