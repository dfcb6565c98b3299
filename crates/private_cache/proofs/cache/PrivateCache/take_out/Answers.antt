use Rattle.std.proofs.Common.{sym, ◌∙◌}
use Rattle.private_cache.proofs.Shown.{line_at-shown, shown-none, apart-none}
use Rattle.private_cache.proofs.cache.PrivateCache.take_out.Goals as goal

pub invariant_of-self : goal.invariant_of-self
invariant_of-self c = rw c.pop.ensures.entries (apart-none c.self.inside.lines c.args.addr c.self.invariant)

pub returns-clause-value : goal.returns-clause-value
returns-clause-value c =
    rw (← c.self.view_is) (c.pop.ensures.value ∙ sym (line_at-shown c.self.inside.lines c.args.addr))

pub returns-clause-after : goal.returns-clause-after
returns-clause-after c =
    rw (← c.self.view_is, c.pop.ensures.entries) (shown-none c.self.inside.lines c.args.addr c.self.invariant)
