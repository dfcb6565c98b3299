use Rattle.std.proofs.Common.{◌≡◌, ℕ, ◌≤◌, false, nat_lt, refl, ◌∙◌, arith}
use Rattle.std.proofs.lemmas.Bool.{lt-ltb}
use Rattle.private_cache.proofs.Shown.{has_room-shown}
use Rattle.private_cache.proofs.cache.PrivateCache.has_room.Goals as goal

not_below : (a b : ℕ) → b ≤ a → nat_lt a b ≡ false
not_below a b h = grind arith

pub returns-then-len-get-clause-value : goal.returns-then-len-get-clause-value
returns-then-len-get-clause-value c =
    let cap = c.get.ensures.value ∙ c.cap.ensures in
    let room = lt-ltb _ _ (rw (c.len.ensures.len, cap) at c.if-len-get.true) in
    rw (← c.self.view_is, has_room-shown c.self.inside.lines c.args.addr c.self.invariant, c.len.ensures.len, cap, room) refl

pub returns-else-len-get-clause-value : goal.returns-else-len-get-clause-value
returns-else-len-get-clause-value c =
    let cap = c.get.ensures.value ∙ c.cap.ensures in
    let full = not_below _ _ (rw (c.len.ensures.len, cap) at c.if-len-get.false) in
    rw (← c.self.view_is, has_room-shown c.self.inside.lines c.args.addr c.self.invariant, full) c.contains.ensures
