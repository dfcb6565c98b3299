use Rattle.std.proofs.Common.{◌≡◌, true, false, is_some, ap, ◌∙◌}
use Rattle.private_cache.proofs.Shown.{line_at-shown, shown-value, apart-value}
use Rattle.private_cache.proofs.cache.PrivateCache.replace_line.Goals as goal
use Rattle.private_cache.proofs.cache.PrivateCache.replace_line.Goals.{in-Some, in_default}

pub invariant_of-self : goal.invariant_of-self
invariant_of-self c = elim c.match-peek_mut.branch [
  | in-Some w ↦ rw w.self-inside-is (apart-value c.self.inside.lines c.args.addr c.args.held.now c.self.invariant)
  | in_default w ↦ rw w.self-inside-is c.self.invariant
]

pub returns : goal.returns
returns c =
    let there = rw (← c.self.view_is) at c.requires in
    elim c.match-peek_mut.branch [
      | in-Some w ↦
          rw (w.self-inside-is, ← c.self.view_is) (shown-value c.self.inside.lines c.args.addr c.args.held.now there)
      | in_default w ↦
          let found = rw (line_at-shown c.self.inside.lines c.args.addr) at there in
          let none = rw w.in_default.is at c.peek_mut.follows in
          let bad : false ≡ true = ap is_some none ∙ found in absurd cc
    ]
