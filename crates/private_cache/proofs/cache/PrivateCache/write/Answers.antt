use Rattle.std.proofs.Common.{refl, IsSome, true}
use Rattle.private_cache.specs.Steps.{line_at}
use Rattle.private_cache.specs.declared.held.Held.{Held}
use Rattle.private_cache.specs.declared.held.Held.TheVariants.{Exclusive}
use Rattle.private_cache.proofs.Shown.{line_at-shown, shown-front, apart-front, front_from_promoted}
use Rattle.private_cache.proofs.cache.PrivateCache.write.Goals as goal
use Rattle.private_cache.proofs.cache.PrivateCache.write.Goals.{in-Some, in_default}

pub invariant_of-self : goal.invariant_of-self
invariant_of-self c =
    elim c.match-get_mut.branch [
      | in-Some w ↦
          let lines = c.self.inside.lines in
          let held : Held = Exclusive true w.new.result in
          let found = rw w.in-Some.is at c.get_mut.ensures.value in
          let there : IsSome (line_at c.args.self.now c.args.addr) = rw (← c.self.view_is, line_at-shown lines c.args.addr, ← found) refl in
          let front = front_from_promoted lines c.args.addr held (rw (← c.self.view_is) at there) in
          rw (w.self-inside-is, front) (apart-front lines c.args.addr held c.self.invariant)
      | in_default w ↦ rw w.self-inside-is c.self.invariant
    ]

pub returns : goal.returns
returns c =
    elim c.match-get_mut.branch [
      | in-Some w ↦
          let lines = c.self.inside.lines in
          let held : Held = Exclusive true w.new.result in
          let found = rw w.in-Some.is at c.get_mut.ensures.value in
          let there : IsSome (line_at c.args.self.now c.args.addr) = rw (← c.self.view_is, line_at-shown lines c.args.addr, ← found) refl in
          let front = front_from_promoted lines c.args.addr held (rw (← c.self.view_is) at there) in
          rw (← c.self.view_is, line_at-shown lines c.args.addr, ← found, ← w.at.ensures, ← w.new.ensures, w.self-inside-is, front)
          (shown-front lines c.args.addr held)
      | in_default w ↦
          let none = rw w.in_default.is at c.get_mut.ensures.value in
          rw (← c.self.view_is, line_at-shown c.self.inside.lines c.args.addr, ← none, w.self-inside-is) refl
    ]
