use Rattle.std.proofs.Common.{sym, ◌∙◌}
use Rattle.private_cache.proofs.Shown.{line_at-shown}
use Rattle.private_cache.proofs.cache.PrivateCache.line.Goals as goal

pub returns : goal.returns
returns c =
    rw (← c.self.view_is) (c.peek.ensures ∙ sym (line_at-shown c.self.inside.lines c.args.addr))
