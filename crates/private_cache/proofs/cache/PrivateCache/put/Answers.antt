use Rattle.std.proofs.Common.{◌≡◌, true, false, refl, ◌∙◌}
use Rattle.private_cache.proofs.Shown.{line_at-shown, shown-front, apart-front, front_from_put}
use Rattle.private_cache.proofs.cache.PrivateCache.put.Goals as goal
use Rattle.private_cache.proofs.cache.PrivateCache.put.Goals.{in-Ok, in-Err}

pub invariant_of-self : goal.invariant_of-self
invariant_of-self c =
    let room = rw (← c.self.view_is) at c.requires in
    let front = front_from_put c.self.inside.lines c.args.addr c.args.held.now c.self.invariant room in
    elim c.match-put.branch [
      | in-Ok w ↦
          let put = rw w.in-Ok.is at c.put.ensures.entries in
          rw (put ∙ front) (apart-front c.self.inside.lines c.args.addr c.args.held.now c.self.invariant)
      | in-Err w ↦ let kept = rw w.in-Err.is at c.put.ensures.err in rw kept c.self.invariant
    ]

pub returns-clause-ok : goal.returns-clause-ok
returns-clause-ok c =
    let room = rw (← c.self.view_is) at c.requires in
    let front = front_from_put c.self.inside.lines c.args.addr c.args.held.now c.self.invariant room in
    elim c.match-put.branch [
      | in-Ok w ↦
          let put = rw w.in-Ok.is at c.put.ensures.entries in
          rw (w.result-is, put ∙ front, ← c.self.view_is) (shown-front c.self.inside.lines c.args.addr c.args.held.now)
      | in-Err w ↦ rw w.result-is tt
    ]

pub returns-clause-there : goal.returns-clause-there
returns-clause-there c = λ there.
    let found = rw (line_at-shown c.self.inside.lines c.args.addr) at (rw (← c.self.view_is) at there) in
    elim c.match-put.branch [
      | in-Ok w ↦ rw w.result-is refl
      | in-Err w ↦ let bad : false ≡ true = rw w.in-Err.is at c.put.ensures.succeeds found in absurd cc
    ]
