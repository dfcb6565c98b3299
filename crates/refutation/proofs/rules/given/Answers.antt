use Rattle.refutation.proofs.rules.given.Goals as goal

pub returns-in-Read : goal.returns-in-Read
returns-in-Read c = rw (c.in-Read.is, ← c.as_slice.ensures) c.by_source.ensures
