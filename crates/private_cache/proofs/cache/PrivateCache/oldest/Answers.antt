use Rattle.std.proofs.Common.{refl, sym}
use Rattle.private_cache.proofs.Shown.{oldest-shown, oldest_there, none_oldest}
use Rattle.private_cache.proofs.cache.PrivateCache.oldest.Goals as goal

pub returns-in_err-oldest-clause-none : goal.returns-in_err-oldest-clause-none
returns-in_err-oldest-clause-none c =
    let none = rw c.in_err-oldest.was at c.peek_lru.ensures in
    λ _. rw (← c.self.view_is) (none_oldest c.self.inside.lines c.self.invariant (sym none))

pub returns-clause-value : goal.returns-clause-value
returns-clause-value c =
    let last = rw c.in_ok-oldest.was at c.peek_lru.ensures in
    rw (← c.self.view_is, oldest-shown c.self.inside.lines, ← last) refl

pub returns-clause-there : goal.returns-clause-there
returns-clause-there c =
    let last = rw c.in_ok-oldest.was at c.peek_lru.ensures in
    rw (← c.self.view_is) (oldest_there c.self.inside.lines _ c.self.invariant (sym last))
