use Rattle.std.proofs.lemmas.Result.{MatchResult-from_err}
use Rattle.memory_stamp.proofs.Maps.{get-lookup, from_entries-updated}
use Rattle.memory_stamp.proofs.words.Words.insert.Goals as goal

pub returns-clause-ok : goal.returns-clause-ok
returns-clause-ok c =
    rw (← c.self.view_is) (from_entries-updated c.self.inside.words.entries c.insert.new.self.entries c.args.addr c.args.word c.in_ok-insert.ensures.updates.0)

pub returns-in_err-insert-clause-absent : goal.returns-in_err-insert-clause-absent
returns-in_err-insert-clause-absent c =
    rw (← c.self.view_is, get-lookup c.self.inside.words.entries c.args.addr) (MatchResult-from_err _ _ _ c.from_residual.ensures.0 (λ _. c.in_err-insert.ensures.absent))
