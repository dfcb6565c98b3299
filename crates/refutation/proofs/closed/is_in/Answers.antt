use Rattle.refutation.proofs.closed.is_in.Goals as goal

pub returns : goal.returns
returns c = rw (c.in_ok-far.ensures, c.deref.ensures.value) at c.has.ensures
